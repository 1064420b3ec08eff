-- The table without its action lines has the form of the whole.
use Prim.Native.Nat.{ℕ}
use mathlib.Core.Path.{◌≡◌, refl, sym, ◌∙◌}
use mathlib.Core.Logic.{◌⊎◌, inl, inr}
use mathlib.Core.List.{List}
use mathlib.Core.Option.{some, none}
use lib.ListN.{length}
use Rattle.language.specs.Grammar.{Grammar, Rule, rule_at}
use Rattle.language.specs.Sentence.{In}
use Rattle.leftcorner.specs.Table.{Action, Table, action_for}
use Rattle.leftcorner.specs.Construction.{entry_item, EntryAt, ActionAt, WellFormed}
use Rattle.build_states.specs.States.{total, states}
use Rattle.build_book.proofs.Over.{entry_over}
use Rattle.build_book.specs.Built.{items, built}
use Rattle.build_book.proofs.LineLaws.{item_table}
use Rattle.build_book.proofs.Once.{kernels_count}
use Rattle.build_book.proofs.BuiltForm.{full_table, entries_both}

module _ (g : Grammar) (F : List ℕ → ℕ → ℕ → Type 0) (F? : (β : List ℕ) (d c : ℕ) → Dec (F β d c)) (first-codes : List ℕ)
    (F-in : (β : List ℕ) (d c : ℕ) → F β d c → (c ≡ d) ⊎ In c first-codes) where
  pub items_states : (item_table g F F? first-codes F-in).states ≡ length (states g)
  unfolding items
  items_states = refl

  pub items_lines : length (item_table g F F? first-codes F-in).kernels ≡ total (states g)
  unfolding items
  items_lines = kernels_count g F F? first-codes F-in 1 (states g)

  pub kernels_both : (item_table g F F? first-codes F-in).kernels ≡ (full_table g F F? first-codes F-in).kernels
  unfolding built
  kernels_both = refl

  pub no_line : {q X : ℕ} {x : Action} → ActionAt g (item_table g F F? first-codes F-in) q X x → ⊥
  unfolding items
  no_line m = elim m [ ]

  pub no_action : (q X : ℕ) → action_for (item_table g F F? first-codes F-in).actions q X ≡ none
  unfolding items
  no_action q X = refl

  -- the entries of the one are those of the other
  to_full : (k : ℕ) {s : ℕ} {γ : List ℕ} → EntryAt g (item_table g F F? first-codes F-in) k s γ → EntryAt g (full_table g F F? first-codes F-in) k s γ
  to_full k e = sym (entry_over g (item_table g F F? first-codes F-in) (full_table g F F? first-codes F-in) (entries_both g F F? first-codes F-in) k) ∙ e

  from_full : (k : ℕ) {s : ℕ} {γ : List ℕ} → EntryAt g (full_table g F F? first-codes F-in) k s γ → EntryAt g (item_table g F F? first-codes F-in) k s γ
  from_full k e = entry_over g (item_table g F F? first-codes F-in) (full_table g F F? first-codes F-in) (entries_both g F F? first-codes F-in) k ∙ e

  abbrev Known : Table → ℕ → Type 0
  Known t i = ((r : Rule) × (rule_at g i ≡ some r)) ⊎ ((j : ℕ) × (s : ℕ) × (γ : List ℕ) × (i ≡ entry_item g t j) × EntryAt g t j s γ)

  known : (i : ℕ) → Known (full_table g F F? first-codes F-in) i → Known (item_table g F F? first-codes F-in) i
  known i (inl r) = inl r
  known i (inr e) = inr (e.0, e.1, e.2, e.3, from_full e.0 e.4)

  pub items_form : WellFormed g (full_table g F F? first-codes F-in) → WellFormed g (item_table g F F? first-codes F-in)
  unfolding built
  items_form R = record {
    one_entry = λ j k s u γ a c. R.one_entry j k s u γ (to_full j a) (to_full k c);
    one_action = λ q X x y a c. absurd (no_line a);
    some_code = R.some_code;
    item_declared = λ q i k σ m. known i (R.item_declared q i k σ m);
    kernel_state = R.kernel_state;
    entry_state = λ k s γ e. R.entry_state k s γ (to_full k e);
    action_state = λ q X x a. absurd (no_line a);
    shift_kind = λ q X s a. absurd (no_line a);
    goto_kind = λ q X s a. absurd (no_line a);
  }
