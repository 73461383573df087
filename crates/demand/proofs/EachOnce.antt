-- The hands that hold a leave are each set of r unseen tiles whose rack holds it, once. Assumes nothing.
use Rattle.std.specs.Prelude.{Bool, true, false, cond, List, ◌∷◌, ℕ, T, length}
use Rattle.std.proofs.Common.{subst}
use Rattle.laws.specs.Every.{every_member, every_at, Distinct, distinct_nil, distinct_cons}
use Rattle.laws.specs.Sums.{select}
use Rattle.hands.specs.Hands.{Tile, hands, rack_of, holds, holding}
use Rattle.hands.specs.Sets.{EachOnce, hand_is_set, set_is_hand, hands_distinct, hand_once, rack_perm}
use Rattle.scatter.specs.Scatter.{select_in, select_of}

select_distinct : {A : Type 0} (p : A → Bool) {xs : List A} → Distinct xs → Distinct (select p xs)
select_distinct p distinct_nil = distinct_nil
select_distinct p (distinct_cons {x = x} {xs = xs} e d) = by (p x) (select_distinct p d)
  where
    by : (c : Bool) → Distinct (select p xs) → Distinct (cond c (x ∷ select p xs) (select p xs))
    by true s = distinct_cons (every_member (select p xs) (λ y m. every_at e (select_of p xs m).0)) s
    by false s = s

pub each_once : (pool : List ℕ) (r : ℕ) (leave : List ℕ) → EachOnce pool r leave (holding pool r leave)
each_once pool r leave = record {
  is_set = λ h m. let s = select_of held (hands pool r) m in (hand_is_set pool r h s.0, s.1);
  there = λ h s t.
      let g = set_is_hand pool r h s in
      (g.0, select_in held g.1 (subst (λ (rack : List ℕ). T (holds rack leave)) (rack_perm 0 (length pool) g.2) t), g.2);
  distinct = select_distinct held (hands_distinct pool r);
  once = λ g h m k p. hand_once pool r g h (select_of held (hands pool r) m).0 (select_of held (hands pool r) k).0 p;
}
  where
    held : List Tile → Bool
    held h = holds (rack_of (length pool) h) leave
