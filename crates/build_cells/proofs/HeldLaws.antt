-- The builder's items in memory are those of a table that was read, as closures, moves and cells ask.
use Prim.Native.Nat.{ℕ, zero, suc, ◌+◌, ◌≤◌}
use native.Mathlib.Omega.{arith}
use mathlib.Core.Path.{◌≡◌, sym, ap, subst, ◌∙◌}
use mathlib.Core.List.{List, []}
use mathlib.Core.Option.{none}
use lib.ListN.{length}
use Rattle.language.specs.Grammar.{Grammar}
use Rattle.leftcorner.specs.Table.{E, Table, action_for, goto_state}
use Rattle.leftcorner.specs.Construction.{EntryAt, KernelAt, WellFormed}
use Rattle.leftcorner.proofs.ReadOff.{clash}
use Rattle.analysis.specs.ByRules.{FirstByRules}
use Rattle.analysis.proofs.Decided.{first?}
use Rattle.memory.specs.Memory.{HoldsActions, kind_of, value_of}
use Rattle.memory.specs.Fits.{Fits}
use Rattle.memory.specs.Held.{HoldsTable}
use Rattle.closure.specs.InMemory.{InMemory}
use Rattle.closure.proofs.UseLaws.{in_memory}
use Rattle.moves.specs.Moves.{Readable}
use Rattle.item_first.specs.Rows.{FirstRoom}
use Rattle.build_states.proofs.Distinct.{at_in}
use Rattle.build_states.proofs.EntryLaws.{lines_length}
use Rattle.build_book.proofs.Over.{entry_over, symbols_over}
use Rattle.build_states.specs.Strings.{entry_strings}
use Rattle.build_book.proofs.LineLaws.{same_entries}
use Rattle.build_book.proofs.BuiltForm.{entries_both, to_built}
use Rattle.build_book.proofs.ItemForm.{items_states, items_lines, no_line, no_action, items_form}
use Rattle.build_book.proofs.Readable as lalr
use Rattle.build_states.specs.Lookaheads.{terminal_codes}
use Rattle.build_states.proofs.CodeLaws.{first_in, codes_low}
use Rattle.build_book.proofs.BuilderLaws.{builder_form}
use Rattle.build_cells.specs.Cells.{items_of, table_of, HoldsLines, StateRoom}

-- a table without action lines: its cells are empty
pub no_actions : (g : Grammar) → HoldsActions [] [] [] (items_of g)
no_actions g = record {
  kind_is = λ q c _ _. sym (ap kind_of (none_at q c));
  value_is = λ q c _ _. sym (ap value_of (none_at q c));
  goto_is = λ q b _ _. sym (ap goto_state (none_at q (64 + b)));
}
  where
    none_at : (q X : ℕ) → action_for (items_of g).actions q X ≡ none
    none_at q X = no_action g (FirstByRules g) (first? g) (terminal_codes g) (first_in g) q X

module _ {g : Grammar} {m entries kernels lookaheads nul fst : List ℕ} {rules strings lines all codes : ℕ}
    (H : HoldsLines g m entries kernels lookaheads nul fst rules strings lines all codes) where
  pub form : WellFormed g (table_of g)
  form = builder_form g H.limits.formed H.productive H.reached H.limits

  read : lalr.Readable g (table_of g)
  read = lalr.readable g (FirstByRules g) (first? g) (terminal_codes g) (first_in g) H.limits (codes_low g) form

  both : (items_of g).entries ≡ (table_of g).entries
  both = entries_both g (FirstByRules g) (first? g) (terminal_codes g) (first_in g)

  many_entries : length (items_of g).entries ≡ length (entry_strings g)
  many_entries = ap length (same_entries g (FirstByRules g) (first? g) (terminal_codes g) (first_in g)) ∙ lines_length 1 (entry_strings g)

  many_lines : length (items_of g).kernels ≡ lines
  many_lines = items_lines g (FirstByRules g) (first? g) (terminal_codes g) (first_in g) ∙ H.line_count

  entry_form : (k s : ℕ) (γ : List ℕ) → EntryAt g (items_of g) k s γ → lalr.EntryForm g (table_of g) s γ
  entry_form zero s γ e = clash cc
  entry_form (suc k) s γ e = read.entry s γ (at_in (table_of g).entries k (E s γ) (sym (entry_over g (items_of g) (table_of g) both (suc k)) ∙ e))

  kernel_form : (q i k : ℕ) (σ : List ℕ) → KernelAt g (items_of g) q i k σ → lalr.KernelForm g (table_of g) q i k σ
  kernel_form q i k σ h = read.kernel q i k σ (to_built g (FirstByRules g) (first? g) (terminal_codes g) (first_in g) q i k σ h)

  fits : Fits g (items_of g)
  fits = record {
    form = items_form g (FirstByRules g) (first? g) (terminal_codes g) (first_in g) form;
    few_states = let e = items_states g (FirstByRules g) (first? g) (terminal_codes g) (first_in g) in omega (arith, e, H.limits.few_states);
    few_entries = omega (arith, many_entries, H.limits.few_entries);
    few_kernels = omega (arith, many_lines, H.line_count, H.limits.few_lines);
    string_some = λ k s γ e. (entry_form k s γ e).some_symbol;
    string_short = λ k s γ e. (entry_form k s γ e).short;
    string_declared = λ k s γ e. (entry_form k s γ e).symbols;
    dot_within = λ q i k σ h. let d = (kernel_form q i k σ h).dot in subst (λ (l : List ℕ). k ≤ length l) (sym (symbols_over g (items_of g) (table_of g) both i)) d;
    code_declared = λ q i k d σ h n. (kernel_form q i k σ h).codes_low d n;
    next_declared = λ q X s x a. absurd (no_line g (FirstByRules g) (first? g) (terminal_codes g) (first_in g) a);
    rule_declared = λ q X i a. absurd (no_line g (FirstByRules g) (first? g) (terminal_codes g) (first_in g) a);
    announce_kind = λ q X i a. absurd (no_line g (FirstByRules g) (first? g) (terminal_codes g) (first_in g) a);
    pop_kind = λ q X n a. absurd (no_line g (FirstByRules g) (first? g) (terminal_codes g) (first_in g) a);
  }

  pub held : HoldsTable g (items_of g) m entries kernels lookaheads [] [] [] rules strings lines
  held = record {
    formed = H.limits.formed;
    fits = fits;
    holds_items = H.holds_items;
    holds_entries = H.holds_entries;
    holds_kernels = H.holds_kernels;
    holds_actions = no_actions g;
    rule_count = H.rule_count;
    entry_count = many_entries ∙ H.entry_count;
    line_count = many_lines;
  }

-- what the parts need of memory
pub in_memory_of : {g : Grammar} {t : Table} {m entries kernels lookaheads kinds values gotos : List ℕ} {rules strings lines codes : ℕ}
    → HoldsTable g t m entries kernels lookaheads kinds values gotos rules strings lines → codes ≡ suc g.terminals → InMemory m kernels lookaheads rules lines codes g t
in_memory_of H e = in_memory H.formed H.fits H.holds_items H.holds_kernels H.rule_count H.line_count (omega (arith, e))

module _ {m kernels links lookaheads nul fst starts through : List ℕ} {count rules strings lines codes : ℕ}
    (Z : StateRoom m kernels links lookaheads nul fst starts through count rules strings lines codes) where
  pub readable_of : {present : List ℕ} → length present ≡ 64 → Readable m kernels links present count rules lines
  readable_of e = record { lined = Z.lined; few = omega (arith, Z.all_items); room = e }

  pub ready_of : FirstRoom m nul fst count codes
  ready_of = record { shaped = Z.lined.shaped; few_codes = Z.few_codes; nul_room = Z.nul_room; fst_room = Z.fst_room }
