-- Numbers as memory keeps them, with 65536 for every one above 65535, and lines judged by them.
use Prim.Native.Nat.{ℕ, zero, suc, ◌≤◌, ◌<◌}
use mathlib.Core.Path.{◌≡◌, refl, sym, ap, ap₂, ◌∙◌}
use mathlib.Core.List.{List, [], ◌∷◌, ◌++◌}
use mathlib.Core.Bool.{Bool, true, false, ◌&&◌}
use native.Mathlib.Decide.{ℕ_discrete}
use native.Mathlib.Omega.{arith}
use borrow.Author.Tests.{le-leb, lt-leb, leb-true, leb-false, eq-eqb, ne_eqb}
use lib.Dec.{leb, eqb}
use lib.ListN.{length, get_or, drop}
use Rattle.language.proofs.TestLaws.{both_true}
use Rattle.table_lines.specs.Line.{TextLine, whole, broken, on_line, all_at_most, cap, caps, capped}
use Rattle.table_lines.specs.Block.{judge, judged}

pub caps-length : (l : List ℕ) → length (caps l) ≡ length l
caps-length [] = refl
caps-length (v ∷ l) = ap suc (caps-length l)

pub caps_snoc : (l : List ℕ) (v : ℕ) → caps (l ++ v ∷ []) ≡ caps l ++ cap v ∷ []
caps_snoc [] v = refl
caps_snoc (u ∷ l) v = ap (λ (m : List ℕ). cap u ∷ m) (caps_snoc l v)

pub caps_at : (l : List ℕ) (k : ℕ) → get_or (caps l) k 0 ≡ cap (get_or l k 0)
caps_at [] k = omega arith
caps_at (v ∷ l) zero = refl
caps_at (v ∷ l) (suc k) = caps_at l k

pub caps-drop : (n : ℕ) (l : List ℕ) → drop n (caps l) ≡ caps (drop n l)
caps-drop zero l = refl
caps-drop (suc n) [] = refl
caps-drop (suc n) (v ∷ l) = caps-drop n l

-- ---- numbers that are not above 65535 are kept as they are
pub at_most : (m : ℕ) (l : List ℕ) → all_at_most m l ≡ true → (k : ℕ) → get_or l k 0 ≤ m
at_most m [] e k = omega arith
at_most m (v ∷ l) e zero = leb-true v m (both_true (leb v m) (all_at_most m l) e).0
at_most m (v ∷ l) e (suc k) = at_most m l (both_true (leb v m) (all_at_most m l) e).1 k

pub caps_same : (l : List ℕ) → all_at_most 65535 l ≡ true → caps l ≡ l
caps_same [] e = refl
caps_same (v ∷ l) e =
    let b = both_true (leb v 65535) (all_at_most 65535 l) e in
    let h : v ≤ 65535 = leb-true v 65535 b.0 in
    let c : cap v ≡ v = omega (arith, h) in
    ap₂ (λ (x : ℕ) (m : List ℕ). x ∷ m) c (caps_same l b.1)

pub caps_most : (l : List ℕ) → all_at_most 65535 (caps l) ≡ all_at_most 65535 l
caps_most [] = refl
caps_most (v ∷ l) = ap₂ (λ (a b : Bool). a && b) (go (leb v 65535) refl) (caps_most l)
  where
    go : (t : Bool) → leb v 65535 ≡ t → leb (cap v) 65535 ≡ t
    go true e = let h : v ≤ 65535 = leb-true v 65535 e in le-leb (cap v) 65535 (omega (arith, h))
    go false e = let h : 65535 < v = leb-false v 65535 e in lt-leb (cap v) 65535 (omega (arith, h))

-- and are told from all others
pub cap-eqb : (a v : ℕ) → a ≤ 65535 → eqb a (cap v) ≡ eqb a v
cap-eqb a v h = go (ℕ_discrete a v)
  where
    go : Dec (a ≡ v) → eqb a (cap v) ≡ eqb a v
    go (yes e) = eq-eqb a (cap v) (omega (arith, h, e)) ∙ sym (eq-eqb a v e)
    go (no f) = ne_eqb a (cap v) (λ e. f (omega (arith, h, e))) ∙ sym (ne_eqb a v f)

-- ---- a line whose form does not tell numbers above 65535 apart, and whose limits none of them is in, comes to the same by its numbers
-- as memory keeps them
module _ {A : Type 0} (form limits declared : List ℕ → Bool) (out : (l : List ℕ) → all_at_most 65535 l ≡ false → limits l ≡ false) (make : List ℕ → A) (at next : ℕ) where
  pub judged-caps : (ns : List ℕ) → form (caps ns) ≡ form ns
      → judged (judge (form (caps ns)) (limits (caps ns)) (declared (caps ns))) at (make (caps ns)) next ≡ judged (judge (form ns) (limits ns) (declared ns)) at (make ns) next
  judged-caps ns q = go (all_at_most 65535 ns) refl
    where
      refuse : (f : Bool) → judged (judge f false (declared (caps ns))) at (make (caps ns)) next ≡ judged (judge f false (declared ns)) at (make ns) next
      refuse true = refl
      refuse false = refl

      go : (t : Bool) → all_at_most 65535 ns ≡ t
          → judged (judge (form (caps ns)) (limits (caps ns)) (declared (caps ns))) at (make (caps ns)) next ≡ judged (judge (form ns) (limits ns) (declared ns)) at (make ns) next
      go true e = ap (λ (l : List ℕ). judged (judge (form l) (limits l) (declared l)) at (make l) next) (caps_same ns e)
      go false e = rw (q, out ns e, out (caps ns) (caps_most ns ∙ e)) (refuse (form ns))

pub line_caps : {A : Type 0} (f : ℕ → List ℕ → ℕ → A) (y : A) → ((letter : ℕ) (ns : List ℕ) (next : ℕ) → f letter (caps ns) next ≡ f letter ns next)
    → (x : TextLine) → on_line x f y ≡ on_line (capped x) f y
line_caps f y same (whole letter ns next) = sym (same letter ns next)
line_caps f y same broken = refl
