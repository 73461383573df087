-- The racks that extend a leave by one tile no earlier than its last letter: they stand side by side in rank order, and together they are all racks.
pub mod Extensions
pub mod Racks
pub mod Onward
