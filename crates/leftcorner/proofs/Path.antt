-- A string of moves: the states that it stacks, how far it takes a dot, and the two steps, announce and pop, that end it.
use Prim.Native.Nat.{ℕ, zero, suc, ◌+◌, ◌≤◌}
use native.Mathlib.Omega.{arith}
use native.Mathlib.Nat.{suc-ne-zero, suc_inj, not-suc-le-zero}
use mathlib.Core.Path.{◌≡◌, refl, sym, ap, ap₂, ◌∙◌}
use mathlib.Core.List.{List, [], ◌∷◌, ◌++◌, map}
use mathlib.Core.Option.{Option, some}
use lib.ListN.{length, drop, take}
use Rattle.language.specs.Grammar.{Grammar, Rule, rule_at}
use Rattle.language.proofs.Lists.{drop_next}
use Rattle.language.specs.First.{next}
use Rattle.leftcorner.specs.Machine.{Cell, announce, pop, Automaton, on, shifted, announced, closed, shift_to, pop_to, land, tell, act, step}

-- how far a dot has come
abbrev pub far : ℕ → List ℕ → ℕ
far k [] = k
far k (X ∷ α) = far (suc k) α

far-suc : (k : ℕ) (α : List ℕ) → far (suc k) α ≡ suc (far k α)
far-suc k [] = refl
far-suc k (X ∷ α) = far-suc (suc k) α

pub far-zero : (α : List ℕ) → far zero α ≡ length α
far-zero [] = refl
far-zero (X ∷ α) = far-suc zero α ∙ ap suc (far-zero α)

-- a dot within a string can be moved to its end
pub far-drop : (n : ℕ) (l : List ℕ) → length (take n l) ≡ n → far n (drop n l) ≡ length l
far-drop zero l e = far-zero l
far-drop (suc n) [] e = absurd (suc-ne-zero n (sym e))
far-drop (suc n) (Y ∷ l) e = far-suc n (drop n l) ∙ ap suc (far-drop n l (suc_inj e))

-- ---- the stack after a string of moves, and its top

module _ (m : Automaton) where
  abbrev pub gotos : ℕ → List ℕ → List ℕ → List ℕ
  gotos q [] ρ = q ∷ ρ
  gotos q (X ∷ α) ρ = gotos (m.goto q X) α (q ∷ ρ)

  abbrev pub last : ℕ → List ℕ → ℕ
  last q [] = q
  last q (X ∷ α) = last (m.goto q X) α

  pub top_gotos : (q : ℕ) (α ρ : List ℕ) → next (gotos q α ρ) 0 ≡ last q α
  top_gotos q [] ρ = refl
  top_gotos q (X ∷ α) ρ = top_gotos (m.goto q X) α (q ∷ ρ)

  pub drop-gotos : (q : ℕ) (α ρ : List ℕ) → drop (length α) (gotos q α ρ) ≡ q ∷ ρ
  drop-gotos q [] ρ = refl
  drop-gotos q (X ∷ α) ρ = drop_next (length α) (gotos (m.goto q X) α (q ∷ ρ)) (m.goto q X) (q ∷ ρ) (drop-gotos (m.goto q X) α (q ∷ ρ))

  pub drop_all : (q : ℕ) (α ρ : List ℕ) → drop (suc (length α)) (gotos q α ρ) ≡ ρ
  drop_all q α ρ = drop_next (length α) (gotos q α ρ) q ρ (drop-gotos q α ρ)

  pub gotos-length : (q : ℕ) (α ρ : List ℕ) → length (gotos q α ρ) ≡ suc (length α + length ρ)
  gotos-length q [] ρ = omega arith
  gotos-length q (X ∷ α) ρ = omega (arith, gotos-length (m.goto q X) α (q ∷ ρ))

  pub gotos_snoc : (q : ℕ) (α : List ℕ) (X : ℕ) (ρ : List ℕ) → gotos q (α ++ X ∷ []) ρ ≡ m.goto (last q α) X ∷ gotos q α ρ
  gotos_snoc q [] X ρ = refl
  gotos_snoc q (Y ∷ α) X ρ = gotos_snoc (m.goto q Y) α X (q ∷ ρ)

  -- one string of moves above another
  pub gotos-++ : (α β : List ℕ) (b p : ℕ) (S U : List ℕ) → p ∷ S ≡ gotos b α U → gotos p β S ≡ gotos b (α ++ β) U
  gotos-++ [] β b p S U e =
      let x : p ≡ b = cc in
      let y : S ≡ U = cc in
      ap₂ (λ (q : ℕ) (l : List ℕ). gotos q β l) x y
  gotos-++ (X ∷ α) β b p S U e = gotos-++ α β (m.goto b X) p S (b ∷ U) e

  pub last-++ : (α β : List ℕ) (b p : ℕ) (S U : List ℕ) → p ∷ S ≡ gotos b α U → last p β ≡ last b (α ++ β)
  last-++ α β b p S U e = sym (top_gotos p β S) ∙ ap (λ (l : List ℕ). next l 0) (gotos-++ α β b p S U e) ∙ top_gotos b (α ++ β) U

-- ---- steps

pub shift_on : (s : ℕ) (S : List ℕ) (a : ℕ) → 1 ≤ a → shift_to s S a ≡ on (shifted a) (s ∷ S)
shift_on s S zero h = absurd (not-suc-le-zero h)
shift_on s S (suc a) h = refl

module _ (g : Grammar) (m : Automaton) where
  pub announce-step : (i : ℕ) (r : Rule) (es : List ℕ) (q : ℕ) (ρ : List ℕ) (c : ℕ) → rule_at g i ≡ some r → m.cell (last m q r.before) c ≡ announce i es
      → step g m (gotos m q r.before ρ) c ≡ on (announced i) (map m.enter es ++ m.goto q r.left ∷ q ∷ ρ)
  announce-step i r es q ρ c e h =
      ap (λ (p : ℕ). act g m (m.cell p c) (gotos m q r.before ρ) c) (top_gotos m q r.before ρ)
      ∙ ap (λ (x : Cell). act g m x (gotos m q r.before ρ) c) h
      ∙ ap (λ (o : Option Rule). tell g m o i es (gotos m q r.before ρ)) e
      ∙ ap (λ (l : List ℕ). land g m i r es l) (drop-gotos m q r.before ρ)

  pub close_step : (q : ℕ) (γ ρ : List ℕ) (c : ℕ) → m.cell (last m q γ) c ≡ pop (suc (length γ)) → step g m (gotos m q γ ρ) c ≡ pop_to ρ c
  close_step q γ ρ c h =
      ap (λ (p : ℕ). act g m (m.cell p c) (gotos m q γ ρ) c) (top_gotos m q γ ρ)
      ∙ ap (λ (x : Cell). act g m x (gotos m q γ ρ) c) h
      ∙ ap (λ (l : List ℕ). pop_to l c) (drop_all m q γ ρ)

  -- a pop that leaves entries and the state below them goes on
  pub pop_groups : (es : List ℕ) (s : ℕ) (ρ : List ℕ) (c : ℕ) → pop_to (map m.enter es ++ s ∷ ρ) c ≡ on closed (map m.enter es ++ s ∷ ρ)
  pop_groups [] s ρ c = refl
  pop_groups (e ∷ es) s ρ c = refl
