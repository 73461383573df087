use Rattle.std.proofs.Common.{◌≡◌, ℕ, zero, suc, ◌+◌, ◌-◌, ◌*◌, ◌^◌, ◌<◌, ◌≤◌, inr, ⊎_elim, List, [], ◌∷◌, ◌++◌, length, get_or, take, drop, take_all, remove, IsAscii, refl, sym, ap, subst, append_assoc, length-append, mul-le-mul_right, eq-or-lt_of_le, arith}
use native.Mathlib.Nat.{pow-zero, pow-succ', pow-le-pow_right}
use Rattle.std.proofs.lemmas.Str.{digit_value_digit}
use Rattle.std.proofs.lemmas.Str.Parse.{digit_from_value}
use Rattle.std.specs.Str.Parse.{AllDigits, digits_value_after}
use Rattle.std.specs.Char.{digit_value}
use Rattle.std.specs.Int.{IsInRange}
use Rattle.cases.specs.Word.{IsNatural, IsNegated, Says, SaysTheSame}

digits_grow : (m : ℕ) (ds : List ℕ) → m * 10 ^ length ds ≤ digits_value_after 10 m ds
digits_grow m [] = omega (arith, ap (λ x. m * x) (pow-zero 10))
digits_grow m (c ∷ cs) = omega (arith, ap (λ x. m * x) (pow-succ' 10 (length cs)), digits_grow (m * 10 + digit_value c) cs)

-- 21 digits of which the first is not 0 are more than 64 bits
long_value : (c : ℕ) (ds : List ℕ) (n : ℕ) → 48 < c → digit_value c < 10 → 20 ≤ length ds
    → IsNatural n (c ∷ ds) → ⊥
long_value c ds n l d long h =
    let v : digit_value c + 48 ≡ c = digit_value_digit c (digit_from_value c d) in
    let some : 1 ≤ 0 * 10 + digit_value c = omega arith in
    let p : 10 ^ 20 ≤ 10 ^ length ds = pow-le-pow_right {n = 10} (omega arith) long in
    let grown : (0 * 10 + digit_value c) * 10 ^ length ds ≤ n =
    subst (λ x. (0 * 10 + digit_value c) * 10 ^ length ds ≤ x) h.1 (digits_grow (0 * 10 + digit_value c) ds) in
    absurd (omega (arith, p, h.2, grown, mul-le-mul_right (10 ^ length ds) some))

-- nor do 21 digits of which the first is a 0 before a byte that is no digit say anything
long_digits : (ds more : List ℕ) (n : ℕ) → 21 ≤ length ds
    → (get_or ds 0 0 ≡ 48 → IsInRange 48 57 (get_or ds 1 0) → ⊥) → IsNatural n (ds ++ more) → ⊥
long_digits [] more n l z h = absurd (omega arith)
long_digits (c ∷ []) more n l z h = absurd (omega arith)
long_digits (c ∷ d ∷ ds) more n l z h =
    let first : IsInRange 48 57 c = digit_from_value c h.0.1.0 in
    let next : IsInRange 48 57 d = digit_from_value d h.0.1.1.0 in
    ⊎_elim
    (λ e. z (sym e) next)
    (λ above. long_value c (d ∷ (ds ++ more)) n above h.0.1.0 (omega (arith, length-append ds more)) h)
    (eq-or-lt_of_le first.0)

pub long_says_nothing : (word more : List ℕ) (n : ℕ) → 22 ≤ length word
    → (get_or word 0 0 ≡ 48 → IsInRange 48 57 (get_or word 1 0) → ⊥)
    → (get_or word 0 0 ≡ 45 → get_or word 1 0 ≡ 48 → IsInRange 48 57 (get_or word 2 0) → ⊥)
    → Says n (word ++ more) → ⊥
long_says_nothing [] more n l z m h = absurd (omega arith)
long_says_nothing (b ∷ ds) more n l z m h = ⊎_elim
    (λ natural. long_digits (b ∷ ds) more n (omega arith) z natural)
    (λ negated. long_digits ds more negated.1.0 (omega arith) (m negated.0) negated.1.1)
    h

shorter : (d : ℕ) (ds : List ℕ) (n : ℕ) → IsNatural n (48 ∷ d ∷ ds) → IsNatural n (d ∷ ds)
shorter d ds n h = ((omega arith, h.0.1.1), h.1, h.2)

longer : (d : ℕ) (ds : List ℕ) (n : ℕ) → IsNatural n (d ∷ ds) → IsNatural n (48 ∷ d ∷ ds)
longer d ds n h = ((omega arith, (omega arith, h.0.1)), h.1, h.2)

no_minus : (b : ℕ) (ds : List ℕ) (n : ℕ) → b ≡ 45 → IsNatural n (b ∷ ds) → ⊥
no_minus b ds n e h = omega (arith, e, digit_from_value b h.0.1.0)

zero_after_minus : (d : ℕ) (ds : List ℕ) → SaysTheSame (45 ∷ 48 ∷ d ∷ ds) (45 ∷ d ∷ ds)
zero_after_minus d ds n more = (
  ⊎_elim (λ h. absurd (no_minus 45 (48 ∷ d ∷ (ds ++ more)) n refl h))
      (λ h. inr (refl, (h.1.0, shorter d (ds ++ more) h.1.0 h.1.1, h.1.2, h.1.3, h.1.4))),
  ⊎_elim (λ h. absurd (no_minus 45 (d ∷ (ds ++ more)) n refl h))
      (λ h. inr (refl, (h.1.0, longer d (ds ++ more) h.1.0 h.1.1, h.1.2, h.1.3, h.1.4))),
)

pub zero_goes_after_minus : (word : List ℕ) → 3 ≤ length word → get_or word 0 0 ≡ 45
    → get_or word 1 0 ≡ 48 → SaysTheSame word (remove word 1)
zero_goes_after_minus [] l e f = absurd (omega arith)
zero_goes_after_minus (b ∷ []) l e f = absurd (omega arith)
zero_goes_after_minus (b ∷ z ∷ []) l e f = absurd (omega arith)
zero_goes_after_minus (b ∷ z ∷ d ∷ ds) l e f =
    subst (λ x. SaysTheSame (x ∷ z ∷ d ∷ ds) (x ∷ d ∷ ds)) (sym e)
    (subst (λ x. SaysTheSame (45 ∷ x ∷ d ∷ ds) (45 ∷ d ∷ ds)) (sym f) (zero_after_minus d ds))

pub same_of_equal : (word other : List ℕ) → word ≡ other → SaysTheSame word other
same_of_equal word other e n more =
    (subst (λ w. Says n (w ++ more)) e, subst (λ w. Says n (w ++ more)) (sym e))

-- a byte more after each
pub same_after : (word other : List ℕ) (byte : ℕ) → SaysTheSame word other
    → SaysTheSame (word ++ byte ∷ []) (other ++ byte ∷ [])
same_after word other byte h n more = (
  (λ s. subst (Says n) (sym (append_assoc other (byte ∷ []) more))
      ((h n (byte ∷ more)).0 (subst (Says n) (append_assoc word (byte ∷ []) more) s))),
  (λ s. subst (Says n) (sym (append_assoc word (byte ∷ []) more))
      ((h n (byte ∷ more)).1 (subst (Says n) (append_assoc other (byte ∷ []) more) s))),
)

-- a byte more after a word that says nothing, whatever follows
pub same_after_nothing : (word : List ℕ) (byte : ℕ)
    → ((n : ℕ) (more : List ℕ) → Says n (word ++ more) → ⊥)
    → SaysTheSame (word ++ byte ∷ []) word
same_after_nothing word byte h n more = (
  (λ s. absurd (h n (byte ∷ more) (subst (Says n) (append_assoc word (byte ∷ []) more) s))),
  (λ s. absurd (h n more s)),
)

pub digits_are_ascii : (ds : List ℕ) → AllDigits 10 ds → IsAscii ds
digits_are_ascii [] d i = omega arith
digits_are_ascii (c ∷ cs) d zero = omega (arith, digit_from_value c d.0)
digits_are_ascii (c ∷ cs) d (suc i) = digits_are_ascii cs d.1 i

pub negated_after_minus : (word : List ℕ) (n : ℕ) → get_or word 0 0 ≡ 45 → Says n word
    → IsNegated n (take (length word - 1) (drop 1 word))
negated_after_minus [] n e h = absurd h
negated_after_minus (b ∷ ds) n e h =
    let whole : take (suc (length ds) - 1) ds ≡ ds = take_all (suc (length ds) - 1) ds (omega arith) in
    ⊎_elim (λ natural. absurd (no_minus b ds n e natural))
    (λ negated. subst (IsNegated n) (sym whole) negated.1) h
