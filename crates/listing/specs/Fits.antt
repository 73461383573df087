-- Lists whose elements fit their types.
use Rattle.std.specs.Prelude.{ℕ, ◌^◌, ◌<◌, List, length, ℤ, pos, slice_index, slice_index_or}
use Rattle.std.specs.Int.Signed.{mag}

-- each is a u8
abbrev pub AreBytes : List ℕ → Type 0
AreBytes xs = (i : ℕ) → i < length xs → slice_index xs i < 2 ^ 8

-- each is an i32
abbrev pub AreEntries : List ℤ → Type 0
AreEntries xs = (i : ℕ) → i < length xs → mag (slice_index_or xs i (pos 0)) < 2 ^ 31
