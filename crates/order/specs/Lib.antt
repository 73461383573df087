-- The tally that comes next in rank order.
pub mod Next
