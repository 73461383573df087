-- Worked examples: the subset maximum of a leave over two letters, and that the order of a pass matters. Assumes nothing.
use Rattle.std.specs.Prelude.{◌≡◌, refl, List, [], ◌∷◌, ℕ, ℤ, pos, negsuc}
use Rattle.laws.specs.Integer.{max_ℤ}
use Rattle.laws.specs.Loops.{descend}
use Rattle.lattice.specs.Tables.{up}
use Rattle.maxima.specs.Maxima.{raise, lifted, lift_all, lift_rows}

-- two letters, racks of two tiles: the ranks with one tile more of (0, 0), (0, 1) and (1, 0)
abbrev two : List ℕ
two = 2 ∷ 1 ∷ 4 ∷ 3 ∷ 5 ∷ 4 ∷ []

abbrev leave : List ℤ
leave = pos 0 ∷ pos 4 ∷ pos 7 ∷ pos 1 ∷ pos 3 ∷ negsuc 1 ∷ []

abbrev leave_max : List ℤ
leave_max = pos 0 ∷ pos 4 ∷ pos 7 ∷ pos 4 ∷ pos 7 ∷ pos 7 ∷ []

pub listing_max : lift_all 2 3 two leave ≡ leave_max
unfolding lifted raise max_ℤ
listing_max = refl

pub listing_rows : lift_rows 2 3 two leave ≡ leave_max
unfolding lifted raise max_ℤ
listing_rows = refl

-- one letter, racks of two tiles
abbrev one : List ℕ
one = 1 ∷ 2 ∷ []

pub upwards : lift_all 1 2 one (pos 5 ∷ pos 0 ∷ pos 0 ∷ []) ≡ pos 5 ∷ pos 5 ∷ pos 5 ∷ []
unfolding lifted raise max_ℤ
upwards = refl

-- downwards, two tiles would miss the entry of none
pub downwards : descend (λ i. lifted i (up 1 one 0 i)) 2 (pos 5 ∷ pos 0 ∷ pos 0 ∷ []) ≡ pos 5 ∷ pos 5 ∷ pos 0 ∷ []
unfolding lifted raise max_ℤ
downwards = refl
