-- The construction with one relation for first is the construction with another that says the same of strings of declared symbols.
use Prim.Native.Nat.{ℕ}
use mathlib.Core.List.{List}
use Rattle.language.specs.Grammar.{Grammar, concat}
use Rattle.language.specs.Sentence.{Declared}
use Rattle.language.proofs.Strings.{AllDeclared, groups_declared, later_declared}
use Rattle.leftcorner.specs.Table.{Action, Table}
use Rattle.leftcorner.specs.Construction.{Carries, in_kernel, in_closure, Asked, to_move, to_announce, to_pop, EntriesMeet, LookaheadsMeet, CellsAgree, CellsMeet, MeetsWith}
use Rattle.std.specs.Prelude.{◌↔◌}
use Rattle.leftcorner.proofs.ItemStrings.{rest_declared}

pub flip : {A B : Type 0} → A ↔ B → B ↔ A
flip h = (h.1, h.0)

module _ (g : Grammar) (t : Table) (D : Declared g) (E : EntriesMeet g t) where
  -- one way
  module _ (F G : List ℕ → ℕ → ℕ → Type 0) (up : (β : List ℕ) → AllDeclared g β → (d c : ℕ) → F β d c → G β d c) where
    pub carries_over : {q i k d : ℕ} → Carries g t F q i k d → Carries g t G q i k d
    carries_over (in_kernel h m) = in_kernel h m
    carries_over (in_closure {i = i} {k = k} {d = d} {X = X} j {c = c} {β = β} h go e l f) =
        in_closure j (carries_over h) go e l (up β (rest_declared g t D E i k X β go) d c f)

    pub asked_over : {q X : ℕ} {x : Action} → Asked g t F q X x → Asked g t G q X x
    asked_over (to_move m) = to_move m
    asked_over {X = X} (to_announce i {d = d} {r = r} e h f) = to_announce i e (carries_over h) (up (concat r.groups) (groups_declared g D i r e) d X f)
    asked_over (to_pop k e h) = to_pop k e (carries_over h)

  module _ (F G : List ℕ → ℕ → ℕ → Type 0) (same : (β : List ℕ) → AllDeclared g β → (d c : ℕ) → F β d c ↔ G β d c) where
    carries : {q i k d : ℕ} → Carries g t G q i k d → Carries g t F q i k d
    carries h = carries_over G F (λ β a d c. (same β a d c).1) h

    asked : {q X : ℕ} {x : Action} → Asked g t G q X x → Asked g t F q X x
    asked h = asked_over G F (λ β a d c. (same β a d c).1) h

    pub lookaheads_over : (q : ℕ) → LookaheadsMeet g t F q → LookaheadsMeet g t G q
    lookaheads_over q M = record {
      of_move = λ p X i k d β σ x a n h. M.of_move p X i k d β σ x a n (carries h);
      of_group = λ k p i d c γ σ r δs εs e re ge h f. M.of_group k p i d c γ σ r δs εs e re ge (carries h)
          ((same (concat εs) (later_declared g D i r δs γ εs re ge) d c).1 f);
      of_goal = M.of_goal;
    }

    pub agree_over : (q : ℕ) → CellsAgree g t F q → CellsAgree g t G q
    agree_over q M = record { one = λ X x y a b. M.one X x y (asked a) (asked b) }

    pub cells_over : (q : ℕ) → CellsMeet g t F q → CellsMeet g t G q
    cells_over q M = record {
      filled = λ X x a. M.filled X x (asked a);
      asked = λ X y a. asked_over F G (λ β s d c. (same β s d c).0) (M.asked X y a);
    }

module _ (g : Grammar) (t : Table) (D : Declared g) where
  meets_over : (F G : List ℕ → ℕ → ℕ → Type 0) → ((β : List ℕ) → AllDeclared g β → (d c : ℕ) → F β d c ↔ G β d c) → MeetsWith g t F → MeetsWith g t G
  meets_over F G same M = record {
    form = M.form;
    entries = M.entries;
    items = M.items;
    lookaheads = λ q. lookaheads_over g t D M.entries F G same q (M.lookaheads q);
    agree = λ q. agree_over g t D M.entries F G same q (M.agree q);
    cells = λ q. cells_over g t D M.entries F G same q (M.cells q);
  }

  pub swap : (F G : List ℕ → ℕ → ℕ → Type 0) → ((β : List ℕ) → AllDeclared g β → (d c : ℕ) → F β d c ↔ G β d c) → MeetsWith g t F ↔ MeetsWith g t G
  swap F G same = (meets_over F G same, meets_over G F (λ β a d c. flip (same β a d c)))
