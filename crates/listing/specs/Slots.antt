-- What slots hold.
use Rattle.std.specs.Prelude.{ℕ, List, take}
use Rattle.listing.specs.declared.slots.Slots.{Slots}

-- the values, in order
unfoldable pub items_of : {T : Type 0} {N : ℕ} → Slots T N → List T
items_of s = take s.len s.values
