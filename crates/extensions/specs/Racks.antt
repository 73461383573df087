-- Every rack extends exactly one leave of one tile less: the racks of a lattice as the extensions of its leaves. Assumes nothing.
use Rattle.std.specs.Prelude.{◌≡◌, refl, Bool, true, false, cond, ◌⊎◌, ℕ, zero, suc, ◌+◌, ◌-◌, ◌^◌, ◌≤◌, ◌<◌, T, eqb, length, replicate}
use Rattle.std.proofs.Common.{sym, ap, ap₂, ◌∙◌, subst, inl, inr, not-suc-le-zero, arith, eqb→eq}
use mathlib.Core.List.Memᴰ
use mathlib.Core.List.{List, [], ◌∷◌, ◌++◌, map, Memᴰ}
use Rattle.laws.specs.Lists.{upto, concat_map, upto_suc, of_upto, map_append, map_map, map_concat_map, concat_map_map, concat_map_append, concat_map_one, of_concat_map}
use Rattle.lattice.specs.Tally.{total, tallies, start, rank_of, add_tile, total_cons, total_nil}
use Rattle.lattice.specs.Tallies.{Fits, skip, bump, tallies_empty, tallies_zero, tallies_suc, tallies_too_many, tallies_fit, tallies_all}
use Rattle.extensions.specs.Extensions.{stop_of, extension, extent, extensions, stop_cons, stop_first, stop_low}

-- a leave of one tile less than a rack: its rank, where its letters end, and the rank of the first rack that extends it
pub record Leave (n r rank : ℕ) (t : List ℕ) (stop first : ℕ) : Type 0 where
  pub letters : length t ≡ n
  pub tiles : suc (total t) ≡ r
  pub ranked : rank_of n t ≡ rank
  pub stops : stop ≡ stop_of t
  pub starts : first ≡ rank_of n (extension t 0)

-- what a step to the next leave asks of a tally
pub record Walking (t : List ℕ) (stop first : ℕ) : Type 0 where
  pub some : 0 < length t
  pub letters : length t ≤ 64
  pub tiles : total t < 255
  pub inside : stop ≤ length t
  pub room : first + 65 < 2 ^ 64

-- a leave's next, with the racks that extend it: where t is a leave of one tile less than a rack, and not the last, u is the next
pub record Onward (t : List ℕ) (stop first : ℕ) (u : List ℕ) (stop' first' : ℕ) : Type 0 where
  pub letters : length u ≡ length t
  pub next : (r rank : ℕ) → Leave (length t) r rank t stop first → suc rank < start (length t) r → Leave (length t) r (suc rank) u stop' first'

-- ---- lists

same_map : {A : Type 0} {f g : ℕ → A} (k : ℕ) → ((i : ℕ) → i < k → f i ≡ g i) → map f (upto k) ≡ map g (upto k)
unfolding upto
same_map zero e = refl
same_map {A} {f} {g} (suc k) e =
    map_append f (upto k) (k ∷ [])
    ∙ ap₂ ◌++◌ (same_map k (λ i h. e i (omega arith))) (ap {B = List A} (λ x. x ∷ []) (e k (omega arith)))
    ∙ sym (map_append g (upto k) (k ∷ []))

same_on : {A B : Type 0} {f g : A → List B} (xs : List A) → ((x : A) → Memᴰ x xs → f x ≡ g x) → concat_map f xs ≡ concat_map g xs
unfolding concat_map
same_on [] e = refl
same_on (x ∷ xs) e = ap₂ ◌++◌ (e x (Memᴰ.head refl)) (same_on xs (λ y m. e y (Memᴰ.tail m)))

-- ---- the tallies that extend one with a first letter more

add_bump : (c : ℕ) (cs : List ℕ) (k : ℕ) → add_tile (suc c ∷ cs) k ≡ bump (add_tile (c ∷ cs) k)
unfolding add_tile bump
add_bump c cs zero = refl
add_bump c cs (suc k) = refl

add_skip : (cs : List ℕ) (k : ℕ) → add_tile (0 ∷ cs) (suc k) ≡ skip (add_tile cs k)
unfolding add_tile
add_skip cs k = refl

add_first : (cs : List ℕ) → add_tile (0 ∷ cs) 0 ≡ bump (skip cs)
unfolding add_tile bump
add_first cs = refl

extend_bump : (c : ℕ) (cs : List ℕ) → extensions (bump (c ∷ cs)) ≡ map bump (extensions (c ∷ cs))
unfolding extensions bump
extend_bump c cs =
    ap (λ (k : ℕ). map (extension (suc c ∷ cs)) (upto (suc (suc (length cs) - k)))) (stop_cons (suc c) cs ∙ sym (stop_cons c cs))
    ∙ same_map (extent (c ∷ cs)) (λ i h. add_bump c cs (suc (length cs) - 1 - i))
    ∙ sym (map_map bump (extension (c ∷ cs)) (upto (extent (c ∷ cs))))

-- of the letters after it, as far as they go
extend_later : (cs : List ℕ) (k : ℕ) → k ≤ length cs → map (extension (skip cs)) (upto k) ≡ map skip (map (extension cs) (upto k))
extend_later cs k h =
    same_map k (λ i l. let e : suc (length cs) - 1 - i ≡ suc (length cs - 1 - i) = omega arith in ap (add_tile (skip cs)) e ∙ add_skip cs (length cs - 1 - i))
    ∙ sym (map_map skip (extension cs) (upto k))

long : (cs : List ℕ) → 0 < total cs → 0 < length cs
long [] h = absurd (let z : total [] ≡ 0 = total_nil in omega arith)
long (c ∷ cs) h = omega arith

stop_skip : (cs : List ℕ) → 0 < total cs → stop_of (skip cs) ≡ suc (stop_of cs)
stop_skip cs h = stop_cons 0 cs ∙ go (eqb (total cs) 0) (eqb→eq (total cs) 0)
  where
    go : (b : Bool) → (T b → total cs ≡ 0) → cond b 1 (suc (stop_of cs)) ≡ suc (stop_of cs)
    go true e = absurd (let z : total cs ≡ 0 = e tt in omega arith)
    go false e = refl

extend_some : (cs : List ℕ) → 0 < total cs → extensions (skip cs) ≡ map skip (extensions cs)
unfolding extensions
extend_some cs h =
    let e : extent (skip cs) ≡ extent cs = omega (arith, stop_skip cs h) in
    let l : extent cs ≤ length cs = omega (arith, stop_low cs (long cs h), long cs h) in
    ap (λ (k : ℕ). map (extension (skip cs)) (upto k)) e ∙ extend_later cs (extent cs) l

-- without tiles a tile of the first letter comes last
extend_none : (cs : List ℕ) → total cs ≡ 0 → 0 < length cs → extensions (skip cs) ≡ map skip (extensions cs) ++ (bump (skip cs) ∷ [])
unfolding extensions
extend_none cs z h =
    let a : stop_of (skip cs) ≡ 1 = omega (arith, stop_first (skip cs) (omega (arith, total_cons 0 cs)), stop_low (skip cs) (omega arith)) in
    let b : stop_of cs ≡ 1 = omega (arith, stop_first cs z, stop_low cs h) in
    let e : extent (skip cs) ≡ suc (length cs) = omega arith in
    let f : extent cs ≡ length cs = omega arith in
    let k : suc (length cs) - 1 - length cs ≡ 0 = omega arith in
    ap (λ (j : ℕ). map (extension (skip cs)) (upto j)) e
    ∙ ap (map (extension (skip cs))) (upto_suc (length cs))
    ∙ map_append (extension (skip cs)) (upto (length cs)) (length cs ∷ [])
    ∙ ap₂ ◌++◌ (extend_later cs (length cs) (omega arith) ∙ ap (λ (j : ℕ). map skip (map (extension cs) (upto j))) (sym f)) (ap {B = List (List ℕ)} (λ x. x ∷ []) (ap (add_tile (skip cs)) k ∙ add_first cs))

extend_only : extensions (skip []) ≡ bump (skip []) ∷ []
unfolding extensions stop_of total upto bump add_tile
extend_only = refl

-- ---- every tally with a tile more

none_list : (n : ℕ) → tallies n 0 ≡ replicate n 0 ∷ []
none_list zero = tallies_empty
none_list (suc n) = tallies_zero n ∙ ap (map skip) (none_list n)

total_none : (n : ℕ) → total (replicate n 0) ≡ 0
total_none zero = total_nil
total_none (suc n) = omega (arith, total_cons 0 (replicate n 0), total_none n)

skips : (m s : ℕ) → ((k : ℕ) → m ≡ suc k → tallies m (suc (suc s)) ≡ concat_map extensions (tallies m (suc s))) → map skip (tallies m (suc (suc s))) ≡ concat_map extensions (map skip (tallies m (suc s)))
unfolding concat_map
skips zero s ih = ap (map skip) (tallies_too_many (suc s)) ∙ sym (ap (λ (ts : List (List ℕ)). concat_map extensions (map skip ts)) (tallies_too_many s))
skips (suc m) s ih =
    ap (map skip) (ih m refl)
    ∙ map_concat_map skip extensions (tallies (suc m) (suc s))
    ∙ same_on (tallies (suc m) (suc s)) (λ t h. let f = tallies_fit (suc m) (suc s) t h in sym (extend_some t (omega (arith, f.tiles))))
    ∙ sym (concat_map_map extensions skip (tallies (suc m) (suc s)))

bumps : (m s : ℕ) → tallies (suc m) (suc s) ≡ concat_map extensions (tallies (suc m) s) → map bump (tallies (suc m) (suc s)) ≡ concat_map extensions (map bump (tallies (suc m) s))
bumps m s ih =
    ap (map bump) ih
    ∙ map_concat_map bump extensions (tallies (suc m) s)
    ∙ same_on (tallies (suc m) s) (λ t h. by t (tallies_fit (suc m) s t h))
    ∙ sym (concat_map_map extensions bump (tallies (suc m) s))
  where
    by : (t : List ℕ) → Fits (suc m) s t → map bump (extensions t) ≡ extensions (bump t)
    by [] f = absurd (let e : 0 ≡ suc m = f.letters in omega arith)
    by (c ∷ cs) f = sym (extend_bump c cs)

all : (m s : ℕ) → tallies (suc m) (suc s) ≡ concat_map extensions (tallies (suc m) s)
all zero zero =
    tallies_suc 0 0
    ∙ ap₂ (λ (a b : List (List ℕ)). map skip a ++ map bump b) (tallies_too_many 0) (none_list 1)
    ∙ sym (ap (concat_map extensions) (none_list 1) ∙ concat_map_one extensions (skip []) ∙ extend_only)
all (suc m) zero =
    let z : List ℕ = replicate (suc m) 0 in
    tallies_suc (suc m) 0
    ∙ ap₂ (λ (a b : List (List ℕ)). map skip a ++ map bump b) (all m zero ∙ ap (concat_map extensions) (none_list (suc m)) ∙ concat_map_one extensions z) (none_list (suc (suc m)))
    ∙ sym (ap (concat_map extensions) (none_list (suc (suc m))) ∙ concat_map_one extensions (skip z) ∙ extend_none z (total_none (suc m)) (omega arith))
all zero (suc s) =
    tallies_suc 0 (suc s)
    ∙ ap₂ ◌++◌ (skips 0 s (λ k e. absurd (omega arith))) (bumps 0 s (all zero s))
    ∙ sym (concat_map_append extensions (map skip (tallies 0 (suc s))) (map bump (tallies 1 s)))
    ∙ ap (concat_map extensions) (sym (tallies_suc 0 s))
all (suc m) (suc s) =
    tallies_suc (suc m) (suc s)
    ∙ ap₂ ◌++◌ (skips (suc m) s (λ k e. all m (suc s))) (bumps (suc m) s (all (suc m) s))
    ∙ sym (concat_map_append extensions (map skip (tallies (suc m) (suc s))) (map bump (tallies (suc (suc m)) s)))
    ∙ ap (concat_map extensions) (sym (tallies_suc (suc m) s))

-- THE RACKS: each leave's extensions, leave by leave
pub racks_extend : (n s : ℕ) → 0 < n → tallies n (suc s) ≡ concat_map extensions (tallies n s)
racks_extend zero s h = absurd (not-suc-le-zero h)
racks_extend (suc m) s h = all m s

-- a rack of one tile more than a leave that it extends
pub record Extends (n s : ℕ) (R : List ℕ) : Type 0 where
  pub leave : List ℕ
  pub fits : Fits n s leave
  pub at : ℕ
  pub below : at < extent leave
  pub is : extension leave at ≡ R

in_map : {A B : Type 0} (f : A → B) (xs : List A) {y : B} → Memᴰ y (map f xs) → (x : A) × Memᴰ x xs × (f x ≡ y)
in_map f [] m = absurd (Memᴰ.not-nil m)
in_map {A} f (x ∷ xs) {y} m = go (in_map f xs) (Memᴰ.cases_cons m)
  where
    go : (Memᴰ y (map f xs) → (z : A) × Memᴰ z xs × (f z ≡ y)) → (y ≡ f x) ⊎ Memᴰ y (map f xs) → (z : A) × Memᴰ z (x ∷ xs) × (f z ≡ y)
    go rest (inl e) = (x, Memᴰ.head refl, sym e)
    go rest (inr h) = let r = rest h in (r.0, Memᴰ.tail r.1, r.2)

pub rack_extends : (n s : ℕ) (R : List ℕ) → 0 < n → Fits n (suc s) R → Extends n s R
unfolding extensions
rack_extends n s R h f =
    let m = of_concat_map extensions (tallies n s) (subst (λ (ts : List (List ℕ)). Memᴰ R ts) (racks_extend n s h) (tallies_all n (suc s) R f)) in
    let i = in_map (extension m.0) (upto (extent m.0)) m.2 in
    record { leave = m.0; fits = tallies_fit n s m.0 m.1; at = i.0; below = of_upto (extent m.0) i.1; is = i.2 }
