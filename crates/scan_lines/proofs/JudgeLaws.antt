-- What a line gives, by the tests that it meets; and what a token tells of its line.
use Prim.Native.Nat.{ℕ, ◌≤◌}
use mathlib.Core.Path.{◌≡◌, refl, sym, ap}
use mathlib.Core.List.{List}
use mathlib.Core.Option.{Option}
use mathlib.Core.Bool.{Bool, true, false, cond, ◌&&◌}
use native.Mathlib.Omega.{arith}
use borrow.Author.Tests.{le-ltb, ltb-false, ne_eqb, eqb-false}
use lib.Dec.{ltb, eqb}
use Rattle.reply.specs.declared.Kind.TheVariants as kind
use Rattle.scan_lines.specs.declared.Judged.TheVariants as judged
use Rattle.scan_lines.specs.Tokens.{Scan, code_of, repeats, differs, judge}

-- ---- by the tests
module _ (letters : List ℕ) (before : Option Scan) (x : Scan) where
  module _ (low : x.sequence ≤ 65535) where
    pub conflicting : repeats before x && differs before x ≡ true → judge letters before x ≡ judged.Refused kind.ConflictingRepeat
    unfolding judge
    conflicting c = simp (le-ltb _ _ low, c)

    module _ (agrees : repeats before x && differs before x ≡ false) where
      pub undeclared : code_of letters x.letter ≡ 0 → judge letters before x ≡ judged.Refused kind.Undeclared
      unfolding judge
      undeclared z = simp (le-ltb _ _ low, agrees, z)

      pub taken : (code_of letters x.letter ≡ 0 → ⊥) → {t : Bool} → repeats before x ≡ t
          → judge letters before x ≡ judged.Token (cond t 4 (code_of letters x.letter))
      unfolding judge
      taken f e = simp (le-ltb _ _ low, agrees, ne_eqb _ _ f) (ap (λ (t : Bool). judged.Token (cond t 4 (code_of letters x.letter))) e)

-- ---- by the token
pub record Taken (letters : List ℕ) (before : Option Scan) (x : Scan) (t : ℕ) : Type 0 where
  pub numbered : x.sequence ≤ 65535
  pub agrees : repeats before x && differs before x ≡ false
  pub coded : code_of letters x.letter ≡ 0 → ⊥
  pub token : t ≡ cond (repeats before x) 4 (code_of letters x.letter)

pub token_tells : (letters : List ℕ) (before : Option Scan) (x : Scan) {t : ℕ} → judge letters before x ≡ judged.Token t → Taken letters before x t
unfolding judge
token_tells letters before x {t} e =
    go (ltb 65535 x.sequence) refl (repeats before x && differs before x) refl (eqb (code_of letters x.letter) 0) refl e
  where
    go : (a : Bool) → ltb 65535 x.sequence ≡ a → (b : Bool) → repeats before x && differs before x ≡ b → (c : Bool) → eqb (code_of letters x.letter) 0 ≡ c
        → cond a (judged.Refused kind.LimitExceeded) (cond b (judged.Refused kind.ConflictingRepeat)
        (cond c (judged.Refused kind.Undeclared) (judged.Token (cond (repeats before x) 4 (code_of letters x.letter))))) ≡ judged.Token t
        → Taken letters before x t
    go true p b q c r e = let z : ◌≡◌ {A = ℕ} 0 1 = cc in absurd (omega arith)
    go false p true q c r e = let z : ◌≡◌ {A = ℕ} 0 1 = cc in absurd (omega arith)
    go false p false q true r e = let z : ◌≡◌ {A = ℕ} 0 1 = cc in absurd (omega arith)
    go false p false q false r e = record {
      numbered = omega (arith, ltb-false 65535 x.sequence p);
      agrees = q;
      coded = eqb-false _ _ r;
      token = let f : cond (repeats before x) 4 (code_of letters x.letter) ≡ t = cc in sym f;
    }
