-- The laws of floats, in layers: each rests on those above it. The proofs of `numbers`, `roots` and all layers above cite these.

-- ---- whole numbers: nothing here is about floats
-- powers of two, and the length of a number in binary digits
pub mod Powers
-- squares, and the whole root of the specification
pub mod Squares
-- a fraction to a whole number: down, up and to the nearest
pub mod Fractions
-- a number with a sign as a difference, and how far two of them are apart
pub mod Differences
-- `half_up` is the nearest whole number, of both signs
pub mod NearestWhole
-- `closest` is the nearest whole number, a tie to the even one
pub mod NearestClose
-- rounding to p binary digits is nearest among all numbers of p digits
pub mod NearestGrid
-- ---- order and operations
-- the answer of a test as a fact
pub mod Tests
-- the sign of a float, and what a value says of it
pub mod Signs
-- what it is for a format to hold a value
pub mod Held
-- a format writes a number in one way
pub mod SameValue
-- the order of finite values, and that rounding keeps it
pub mod Signed
-- |x| at most h by one test
pub mod Magnitudes
-- what the tests of order say of finite values, the larger and the smaller of two, values beside a whole number, values off zero
pub mod Order
-- each operation is the exact result rounded
pub mod Operations
-- an exact result is not changed
pub mod ExactResults
-- the minus sign goes through every operation
pub mod Negation
-- ---- bounds
-- bounds go through sums, differences and products
pub mod Bounds
-- and through quotients
pub mod Quotients
-- ---- floor and round
-- what the code's tests say of a value's size
pub mod SizeTests
-- floor and round as one thing: what holds of both
pub mod WholeSizes
-- the floor is the largest whole number not above, and keeps the order
pub mod FloorOrder
-- every operation keeps the order
pub mod Monotone
-- a rounded value is at most another, or at least one more
pub mod NextWhole
-- y * whole (x / y) is within bounds, however small y is
pub mod Image
-- y * round (x / y) taken from an x below y in size, without the division
pub mod Folding
-- the arms of `floor_any32` and `floor32`
pub mod FloorArms
-- a sum that has no room for a fraction
pub mod WholeSum
-- the arms of `round32`: rounding by such a sum
pub mod WholeBySum
-- ---- bit patterns
-- which patterns are NaNs
pub mod Patterns
-- a pattern by its fields
pub mod Fields
-- the pattern of a value, from its digits and exponent
pub mod Packing
-- from patterns to floats and back
pub mod Through
-- ---- narrowing
-- the nearest whole number by a shift and a mask
pub mod ClosestShift
-- units of an f64 to units of an f32
pub mod NarrowRounds
-- the arms of `narrow_size` and `narrow_bits`
pub mod NarrowArms
-- ---- roots
-- a root rounded to p digits is nearest among all numbers of p digits
pub mod RootCore
-- the root of a format's value, in the format's units
pub mod RootUnits
-- the digits of a whole root, one a turn of `root`
pub mod RootLoop
-- the fields of a rounded root, as `even_root` gives them
pub mod RootCut
-- the arms of `sqrt_bits`
pub mod RootBits
-- ---- the standard: the definitions of specs/ meet IEEE 754's own words, and nothing else does
-- floor and round
pub mod WholeStandard
-- `round` is roundTiesToEven, of any fraction
pub mod RoundNearest
-- narrowing
pub mod NearestStandard
-- the square root
pub mod RootStandard
-- every float: numbers and special values together
pub mod Standard
-- ---- worked cases
pub mod Examples
