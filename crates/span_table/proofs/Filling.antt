-- One axis of the span table, a copy at a time. Assumes nothing.
use mathlib.Core.Path.{◌≡◌, ◌∙◌}
use mathlib.Core.Logic.{inl, inr}
use mathlib.Core.List.{List}
use Prim.Native.Nat.{ℕ, ◌+◌, ◌*◌, ◌≤◌, ◌<◌}
use native.Mathlib.Nat.{eq-or-lt_of_le}
use native.Mathlib.Omega.{arith}
use lib.ListN.{length, get_or, set, length-set}
use lib.Seq.{get_or-set_same, get_or-set_other}
use lib.Ieee.{Float, nan}

-- in the table t the copies before i have their ends, and all else is as in t₀
pub record Filled (low high : ℕ → Float) (at n : ℕ) (t₀ : List Float) (i : ℕ) (t : List Float) : Type 0 where
  pub same : length t ≡ length t₀
  pub most : i ≤ n
  pub least : (m : ℕ) → m < i → get_or t (at + m) nan ≡ low m
  pub greatest : (m : ℕ) → m < i → get_or t (at + n + m) nan ≡ high m
  pub before : (m : ℕ) → m < at → get_or t m nan ≡ get_or t₀ m nan
  pub past : (m : ℕ) → at + 2 * n ≤ m → get_or t m nan ≡ get_or t₀ m nan

module _ (low high : ℕ → Float) (at n : ℕ) (t₀ : List Float) where
  module _ (i : ℕ) (t : List Float) (v w : Float) (fits : at + 2 * n ≤ length t₀) (l : i < n) (ev : v ≡ low i) (ew : w ≡ high i) (f : Filled low high at n t₀ i t) where
    abbrev t' : List Float
    t' = set (set t (at + i) v) (at + n + i) w

    other : (m : ℕ) → (m ≡ at + i → ⊥) → (m ≡ at + n + i → ⊥) → get_or t' m nan ≡ get_or t m nan
    other m p q = get_or-set_other (set t (at + i) v) (at + n + i) m w nan q ∙ get_or-set_other t (at + i) m v nan p

    here : get_or t' (at + i) nan ≡ v
    here =
        get_or-set_other (set t (at + i) v) (at + n + i) (at + i) w nan (λ p. omega arith)
        ∙ get_or-set_same t (at + i) v nan (omega (arith, f.same))

    there : get_or t' (at + n + i) nan ≡ w
    there = get_or-set_same (set t (at + i) v) (at + n + i) w nan (omega (arith, length-set t (at + i) v, f.same))

    last : (m : ℕ) → m < i + 1 → m ≤ i
    last m h = omega arith

    pub filled_next : Filled low high at n t₀ (i + 1) t'
    filled_next =
        record {
          same = simp length-set f.same;
          most = omega arith;
          least = λ m h.
              elim (eq-or-lt_of_le (last m h)) [
                | inl q ↦ rw q (here ∙ ev)
                | inr q ↦ other (at + m) (λ p. omega arith) (λ p. omega arith) ∙ f.least m q
              ];
          greatest = λ m h.
              elim (eq-or-lt_of_le (last m h)) [
                | inl q ↦ rw q (there ∙ ew)
                | inr q ↦ other (at + n + m) (λ p. omega arith) (λ p. omega arith) ∙ f.greatest m q
              ];
          before = λ m h. other m (λ p. omega arith) (λ p. omega arith) ∙ f.before m h;
          past = λ m h. other m (λ p. omega arith) (λ p. omega arith) ∙ f.past m h;
        }
