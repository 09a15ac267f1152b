-- What the whole frame tests before it writes anything: blank, 5, 6, 16, 7.
pub mod Tests
