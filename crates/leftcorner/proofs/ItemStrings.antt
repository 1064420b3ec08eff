-- The strings that items ask about consist of declared symbols.
use Prim.Native.Nat.{ℕ, ◌-◌}
use mathlib.Core.Path.{◌≡◌, refl, sym, subst}
use mathlib.Core.Bool.{Bool, true, false, cond}
use mathlib.Core.List.{List}
use mathlib.Core.Option.{Option, some, none}
use lib.Dec.{leb}
use Rattle.language.specs.Grammar.{Grammar, Rule, rule_at}
use Rattle.language.specs.Sentence.{In, there, Declared}
use Rattle.language.proofs.Member.{in_drop}
use Rattle.language.proofs.Strings.{AllDeclared, goal_declared, group_declared}
use Rattle.leftcorner.specs.Table.{EntryLine, E, Table, entry_at, string_of, right_of, rule_count, symbols_of, Goes}
use Rattle.leftcorner.specs.Construction.{Wanted, of_goal, of_group, EntriesMeet}

module _ (g : Grammar) (t : Table) (D : Declared g) where
  pub wanted_declared : (γ : List ℕ) → Wanted g γ → AllDeclared g γ
  wanted_declared γ (of_goal e) = subst (AllDeclared g) (sym e) (goal_declared g D)
  wanted_declared γ (of_group i {r = r} e m) = group_declared g D i r γ e m

  right_declared : (i : ℕ) (o : Option Rule) → rule_at g i ≡ o → AllDeclared g (right_of o)
  right_declared i none e X m = elim m [ ]
  right_declared i (some r) e X m = D.right_kind i r X e m

  module _ (M : EntriesMeet g t) where
    string_declared : (k : ℕ) (o : Option EntryLine) → entry_at t k ≡ o → AllDeclared g (string_of o)
    string_declared k none e X m = elim m [ ]
    string_declared k (some (E s γ)) e X m = wanted_declared γ (M.only_wanted k s γ e) X m

    pub symbols_declared : (i : ℕ) → AllDeclared g (symbols_of g t i)
    symbols_declared i = go (leb i (rule_count g t))
      where
        go : (b : Bool) → AllDeclared g (cond b (right_of (rule_at g i)) (string_of (entry_at t (i - rule_count g t))))
        go true = right_declared i (rule_at g i) refl
        go false = string_declared (i - rule_count g t) (entry_at t (i - rule_count g t)) refl

    -- what stands after the symbol that an item goes over
    pub rest_declared : (i k X : ℕ) (β : List ℕ) → Goes g t i k X β → AllDeclared g β
    rest_declared i k X β h Y m = symbols_declared i Y (in_drop k (symbols_of g t i) (subst (λ (l : List ℕ). In Y l) (sym h.before) (there m)))
