-- When two copies touch.
pub mod Touch
-- separation both ways round: the claim
pub mod Mirror
