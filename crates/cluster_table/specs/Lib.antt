-- The cluster table: its parts, an opened one, one with a contact more, soundness, what Row asks of it, and the three fractions.
pub mod Table
pub mod Refusals
pub mod Fractions
