-- Runs of the machine: by these events it comes from one stack to another. A step is a function, so a run that ends is the only
-- one.
use Prim.Native.Nat.{ℕ}
use native.Mathlib.Omega.{arith}
use mathlib.Core.Path.{◌≡◌, refl, sym, ap₂, ◌∙◌, subst}
use mathlib.Core.List.{List, [], ◌∷◌, ◌++◌}
use Rattle.language.specs.Grammar.{Grammar}
use Rattle.language.specs.First.{next}
use Rattle.leftcorner.specs.Machine.{Automaton, Event, on, whole, wrong, step, to_come}

-- ---- outcomes differ

pub wrong-on : {A : Type 0} {e : Event} {U : List ℕ} → wrong ≡ on e U → A
wrong-on h = let f : ◌≡◌ {A = ℕ} 0 1 = cc in absurd (omega (arith, f))

pub whole-on : {A : Type 0} {e : Event} {U : List ℕ} → whole ≡ on e U → A
whole-on h = let f : ◌≡◌ {A = ℕ} 0 1 = cc in absurd (omega (arith, f))

pub whole-wrong : {A : Type 0} → whole ≡ wrong → A
whole-wrong h = let f : ◌≡◌ {A = ℕ} 0 1 = cc in absurd (omega (arith, f))

pub same_event : {e f : Event} {U V' : List ℕ} → on e U ≡ on f V' → e ≡ f
same_event h = cc

pub same_stack : {e f : Event} {U V' : List ℕ} → on e U ≡ on f V' → U ≡ V'
same_stack h = cc

module _ (g : Grammar) (m : Automaton) where
  -- from stack S with w to come, by events τ, to stack Z with v to come
  pub data Run : List ℕ → List ℕ → List Event → List ℕ → List ℕ → Type 0 where
    stop : {S w : List ℕ} → Run S w [] S w
    more : {S U Z w v : List ℕ} {e : Event} {τ : List Event} → step g m S (next w 0) ≡ on e U → Run U (to_come e w) τ Z v → Run S w (e ∷ τ) Z v

  pub run_++ : {σ τ : List Event} {S U Z w v x : List ℕ} → Run S w σ U v → Run U v τ Z x → Run S w (σ ++ τ) Z x
  run_++ stop q = q
  run_++ (more e p) q = more e (run_++ p q)

  -- the same first step, so the same rest
  run_as : {e f : Event} {U V' Z v : List ℕ} {τ : List Event} (w : List ℕ) → on e U ≡ on f V' → Run V' (to_come f w) τ Z v → Run U (to_come e w) τ Z v
  run_as {e} {f} {U} {V'} {Z} {v} {τ} w h r =
      subst (λ (l : List ℕ). Run l (to_come e w) τ Z v) (sym (same_stack h)) (subst (λ (x : Event). Run V' (to_come x w) τ Z v) (sym (same_event h)) r)

  pub run_unique : {σ τ : List Event} {S w U v Z x : List ℕ} → Run S w σ U v → Run S w τ Z x → step g m U (next v 0) ≡ whole → step g m Z (next x 0) ≡ whole → σ ≡ τ
  run_unique stop stop x y = refl
  run_unique stop (more f q) x y = whole-on (sym x ∙ f)
  run_unique (more e p) stop x y = whole-on (sym y ∙ e)
  run_unique (more {w = w} e p) (more f q) x y = ap₂ (λ (a : Event) (l : List Event). a ∷ l) (same_event (sym e ∙ f)) (run_unique p (run_as w (sym e ∙ f) q) x y)

  -- one walk does not end both ways
  pub one_end : {σ τ : List Event} {S w U v Z x : List ℕ} → Run S w σ U v → Run S w τ Z x → step g m U (next v 0) ≡ whole → step g m Z (next x 0) ≡ wrong → ⊥
  one_end stop stop x y = whole-wrong (sym x ∙ y)
  one_end stop (more f q) x y = whole-on (sym x ∙ f)
  one_end (more e p) stop x y = wrong-on (sym y ∙ e)
  one_end (more {w = w} e p) (more f q) x y = one_end p (run_as w (sym e ∙ f) q) x y
