-- Where the least and the greatest of some separations take off the same number of extents, so does each between them: its image is the same number as the
-- separation less those extents. The sums of squares of the same numbers are the same numbers, and the same test. Only that each operation keeps the
-- order is used. Assumes nothing.
use mathlib.Core.Path.{◌≡◌, refl, sym, subst}
use mathlib.Core.Logic.{inl, inr}
use mathlib.Core.Bool.{Bool, true, false}
use Prim.Native.Nat.{◌^◌}
use lib.Dec.{T, lit≤}
use lib.Ieee.{Float, nan, inf, fin, binary32, neg, add, sub, mul, lt, le, eq}
use lib.Ieee.Scale.{finite}
use Rattle.floats.specs.Constants.{zero32}
use Rattle.floats.specs.Order.{larger}
use Rattle.floats.proofs.Bounds.{Within, exact-pow, mul-within, add-within}
use Rattle.floats.proofs.Quotients.{within-finite}
use Rattle.floats.proofs.Signs.{neg-finite}
use Rattle.floats.proofs.Signed.{le_antisym, neg-le}
use Rattle.floats.proofs.Negation.{square-neg}
use Rattle.floats.proofs.Magnitudes.{le-trans-all}
use Rattle.floats.proofs.Order.{le-refl-finite, larger-is}
use Rattle.floats.proofs.Monotone.{add-mono, sub-mono, mul-mono-left, eq-square}
use Rattle.cell.specs.Cell.{image_axis, squared}
use Rattle.cell.specs.declared.Vec3.{Vec3}
use Rattle.cell.proofs.Finite.{Around}
use Rattle.touch.specs.Touch.{cutoff2}
use Rattle.gates.specs.Inner.{turns_of}
use Rattle.gates.proofs.Axes.{Axis, turns-finite, taken-finite, image-sized}
use Rattle.gates.proofs.Squares.{Sized, sized, right_of}
use Rattle.gates.proofs.Sure.{Apart}
use Rattle.gates.proofs.Images.{turns-order}

-- ---- the same number, the two zeros counted as one
pub record Same (x y : Float) : Type 0 where
  pub to : T (le x y)
  pub from : T (le y x)

same-finite : (x y : Float) → Same x y → T (finite y) → T (finite x)
unfolding le lt eq
same-finite x y s p = go x y s.to s.from p
  where
    go : (x y : Float) → T (le x y) → T (le y x) → T (finite y) → T (finite x)
    go nan y h k p = absurd h
    go (inf b) nan h k p = absurd p
    go (inf b) (inf c) h k p = absurd p
    go (inf true) (fin c m e) h k p = absurd k
    go (inf false) (fin c m e) h k p = absurd h
    go (fin b m e) y h k p = tt

same-square : (x y : Float) → Same x y → T (finite y) → Same (mul binary32 x x) (mul binary32 y y)
same-square x y s p =
    let q = same-finite x y s p in
    record { to = eq-square binary32 x y q p (le_antisym x y s.to s.from); from = eq-square binary32 y x p q (le_antisym y x s.from s.to) }

same-sized : (x y : Float) → Same x y → Sized y → Sized x
same-sized x y s z = record { own = same-finite x y s z.own; square = same-finite (mul binary32 x x) (mul binary32 y y) (same-square x y s z.own) z.square }

same_add : (x x' y y' : Float) → Same x x' → Same y y' → T (finite x') → T (finite y') → Same (add binary32 x y) (add binary32 x' y')
same_add x x' y y' s t p q =
    let u = same-finite x x' s p in
    let v = same-finite y y' t q in
    record { to = add-mono binary32 x x' y y' u p v q s.to t.to; from = add-mono binary32 x' x y' y p u q v s.from t.from }

-- a test against c does not tell them apart
same_test : (x y c : Float) → Same x y → le x c ≡ le y c
same_test x y c s = go (le x c) (le y c) (λ h. le-trans-all y x c s.from h) (λ h. le-trans-all x y c s.to h)
  where
    go : (a b : Bool) → (T a → T b) → (T b → T a) → a ≡ b
    go true true f g = refl
    go true false f g = absurd (f tt)
    go false true f g = absurd (g tt)
    go false false f g = refl

-- three numbers and a sum of their squares
pub record SameOn (a i : Vec3) : Type 0 where
  pub on-x : Same a.x i.x
  pub on-y : Same a.y i.y
  pub on-z : Same a.z i.z

pub record SizedOn (i : Vec3) : Type 0 where
  pub on-x : Sized i.x
  pub on-y : Sized i.y
  pub on-z : Sized i.z
  pub pair : T (finite (add binary32 (mul binary32 i.x i.x) (mul binary32 i.y i.y)))

-- as images are
pub sized_on : (i : Vec3) → Around 24 i → SizedOn i
sized_on i w =
    let square : (x : Float) → Within (2 ^ 24) x → Within (2 ^ 48) (mul binary32 x x) = λ x v. mul-within binary32 x x (2 ^ 24) (2 ^ 24) (exact-pow binary32 48 (lit≤ tt)) v v in
    record {
      on-x = sized i.x w.on-x;
      on-y = sized i.y w.on-y;
      on-z = sized i.z w.on-z;
      pair = within-finite (2 ^ 49) (add binary32 (mul binary32 i.x i.x) (mul binary32 i.y i.y))
          (add-within binary32 (mul binary32 i.x i.x) (mul binary32 i.y i.y) (2 ^ 48) (2 ^ 48) (exact-pow binary32 49 (lit≤ tt)) (square i.x w.on-x) (square i.y w.on-y));
    }

pub same-squared : (a i : Vec3) (c : Float) → SameOn a i → SizedOn i → le (squared a) c ≡ le (squared i) c
unfolding squared
same-squared a i c s z =
    let sq : (x y : Float) → Same x y → Sized y → Same (mul binary32 x x) (mul binary32 y y) = λ x y t w. same-square x y t w.own in
    same_test (squared a) (squared i) c
    (same_add _ _ _ _ (same_add _ _ _ _ (sq a.x i.x s.on-x z.on-x) (sq a.y i.y s.on-y z.on-y) z.on-x.square z.on-y.square) (sq a.z i.z s.on-z z.on-z) z.pair z.on-z.square)

-- ---- one axis: the separations from lo to hi take off as many extents as lo
module _ (lo hi e : Float) (E : Axis e) (wl : Within (2 ^ 21) lo) (wh : Within (2 ^ 21) hi) (level : T (le (turns_of hi e) (turns_of lo e))) where
  module _ (d : Float) (w : Within (2 ^ 21) d) (hl : T (le lo d)) (hh : T (le d hi)) where
    pub level-image : Same (sub binary32 d (mul binary32 e (turns_of lo e))) (image_axis d e)
    unfolding image_axis turns_of
    level-image =
        let fd = within-finite (2 ^ 21) d w in
        let r = le-refl-finite d fd in
        let fl = turns-finite lo e E wl in
        let ft = turns-finite d e E w in
        let fe = within-finite (2 ^ 17) e E.side.within in
        let few = le-trans-all (turns_of d e) (turns_of hi e) (turns_of lo e) (turns-order d hi e E w wh hh) level in
        record {
          to = sub-mono binary32 d d (mul binary32 e (turns_of lo e)) (mul binary32 e (turns_of d e)) fd fd (taken-finite lo e E wl) (taken-finite d e E w) r
              (mul-mono-left binary32 e (turns_of d e) (turns_of lo e) fe E.plus ft fl few);
          from = sub-mono binary32 d d (mul binary32 e (turns_of d e)) (mul binary32 e (turns_of lo e)) fd fd (taken-finite d e E w) (taken-finite lo e E wl) r
              (mul-mono-left binary32 e (turns_of lo e) (turns_of d e) fe E.plus fl ft (turns-order lo d e E wl w hl));
        }

    level-sized : Sized (sub binary32 d (mul binary32 e (turns_of lo e)))
    level-sized = same-sized _ _ level-image (image-sized d e E w)

  -- the ends of some of them, from low to high, are clear of the cutoff on one side: so is each between
  pub level-clear : (k low d high : Float) → T (finite (cutoff2 k)) → Within (2 ^ 21) low → Within (2 ^ 21) d → Within (2 ^ 21) high → T (le lo low) → T (le low d) → T (le d high) → T (le high hi)
      → let gap = larger (sub binary32 low (mul binary32 e (turns_of lo e))) (neg (sub binary32 high (mul binary32 e (turns_of lo e)))) in
      T (lt zero32 gap) → T (lt (cutoff2 k) (mul binary32 gap gap)) → Apart k d e
  level-clear k low d high fk wlow w whigh a b c h p s =
      let off = mul binary32 e (turns_of lo e) in
      let first = sub binary32 low off in
      let last = sub binary32 high off in
      let mid = sub binary32 d off in
      let fo = taken-finite lo e E wl in
      let r = le-refl-finite off fo in
      let ld = le-trans-all lo low d a b in
      let dh = le-trans-all d high hi c h in
      let same = level-image d w ld dh in
      let size = image-sized d e E w in
      elim (larger-is first (neg last)) [
        | inl is ↦
            right_of (cutoff2 k) fk first (image_axis d e) (level-sized low wlow a (le-trans-all low d hi b dh)) size (subst (λ (z : Float). T (lt zero32 z)) is p)
            (subst (λ (z : Float). T (lt (cutoff2 k) (mul binary32 z z))) is s)
            (le-trans-all first mid (image_axis d e) (sub-mono binary32 low d off off (within-finite (2 ^ 21) low wlow) (within-finite (2 ^ 21) d w) fo fo b r) same.to)
        | inr is ↦
            let z = level-sized high whigh (le-trans-all lo d high ld c) h in
            let le-last = le-trans-all (image_axis d e) mid last same.from (sub-mono binary32 d high off off (within-finite (2 ^ 21) d w) (within-finite (2 ^ 21) high whigh) fo fo c r) in
            λ l.
            right_of (cutoff2 k) fk (neg last) (neg (image_axis d e)) (turned last z) (turned (image_axis d e) size) (subst (λ (z : Float). T (lt zero32 z)) is p)
            (subst (λ (z : Float). T (lt (cutoff2 k) (mul binary32 z z))) is s) (neg-le (image_axis d e) last le-last)
            (subst (λ (z : Float). T (le z (cutoff2 k))) (sym (square-neg binary32 (image_axis d e))) l)
      ]
    where
      turned : (x : Float) → Sized x → Sized (neg x)
      turned x z = record { own = neg-finite x z.own; square = subst (λ (y : Float). T (finite y)) (sym (square-neg binary32 x)) z.square }
