-- Memory that holds a grammar's rules and nothing else is ready for the blocks; and what it holds after them.
use Prim.Native.Nat.{ℕ, zero, suc, ◌+◌, ◌*◌, ◌≤◌}
use mathlib.Core.Path.{◌≡◌, refl, sym, ap, ◌∙◌}
use mathlib.Core.List.{List, [], ◌∷◌, ◌++◌, append-nil, append_assoc}
use mathlib.Core.Option.{some, none}
use native.Mathlib.Nat.{add-zero}
use native.Mathlib.Omega.{arith}
use lib.ListN.{length, get_or, length-append}
use lib.Seq.{sets}
use Rattle.language.specs.Grammar.{Grammar, Rule, concat}
use Rattle.leftcorner.specs.Table.{EntryLine, KernelLine, ActionLine}
use Rattle.items.specs.Layout.{item_table, layout, entry_row, entry_rows}
use Rattle.items.proofs.StoreLaws.{sets_join}
use Rattle.items.proofs.BuildLaws.{row-length}
use Rattle.items.proofs.TableLaws.{table_entry, table_behind}
use Rattle.items.proofs.LayoutLaws.{layout_shaped}
use Rattle.table_lines.specs.Image.{image, flag}
use Rattle.table_lines.proofs.ImageLaws.{image_zeros}
use Rattle.table_entries.specs.Memory.{strings_of, state_at, is_entry_state, with_entries, EntryMemory}
use Rattle.table_kernels.specs.Memory.{figure_at, lookahead_at, KernelImage}
use Rattle.memory.specs.Memory.{kind_of, value_of}
use Rattle.table_actions.specs.Memory.{cell_at, goto_at, Cells, ActionImage}
use Rattle.table_blocks.specs.Blocks.{whole, table_with}
use Rattle.table_blocks.specs.Memory.{Slices, Zero, GrammarOnly, Holds}

-- ---- before
zeros_are : (l : List ℕ) (f : ℕ → ℕ) → Zero l → ((i : ℕ) → f i ≡ 0) → l ≡ image (length l) f
zeros_are l f z h = z ∙ sym (image_zeros (length l) f (λ i b. h i))

no_state : (i : ℕ) → state_at [] i ≡ 0
no_state zero = refl
no_state (suc k) = refl

no_line : {A B : Type 0} {x : A} → none ≡ some x → B
no_line e = let z : ◌≡◌ {A = ℕ} 0 1 = cc in absurd (omega arith)

module _ {g : Grammar} {b : Slices} (k : GrammarOnly g b) where
  room : suc (length g.rules) * 64 ≤ length b.items
  room = omega (arith, k.formed.few_rules, k.room)

  pub entry_start : EntryMemory b.items (length g.rules) (length b.states) (length b.named) [] b.items b.states b.named
  unfolding with_entries
  entry_start = record {
    items_are = refl;
    states_are = zeros_are b.states (state_at []) k.cleared.states_none no_state;
    named_are = zeros_are b.named (λ q. flag (is_entry_state [] q)) k.cleared.named_none (λ q. refl);
    shaped = rw (add-zero (length g.rules), k.items_are) (layout_shaped g k.formed (length b.items) room);
    rows = record { row_in = λ i e. no_line e };
    empty = λ j h. ap (λ (m : List ℕ). get_or m j 0) k.items_are ∙ table_behind g.rules [] (length b.items) j (omega (arith, h));
  }

  pub kernel_start : KernelImage (length b.kernels) (length b.lookaheads) [] b.kernels b.lookaheads
  unfolding figure_at lookahead_at
  kernel_start = record {
    kernels_are = zeros_are b.kernels (figure_at []) k.cleared.kernels_none (λ i. refl);
    lookaheads_are = zeros_are b.lookaheads (lookahead_at []) k.cleared.lookaheads_none (λ i. refl);
  }

  pub cells_start : Cells (length b.kinds) (length b.values) (length b.gotos) [] b.kinds b.values b.gotos
  unfolding cell_at goto_at
  cells_start = record {
    kinds_are = zeros_are b.kinds (cell_at kind_of []) k.cleared.kinds_none (λ i. refl);
    values_are = zeros_are b.values (cell_at value_of []) k.cleared.values_none (λ i. refl);
    gotos_are = zeros_are b.gotos (goto_at []) k.cleared.gotos_none (λ i. refl);
  }

-- ---- after
rows_behind : (rs : List Rule) (γs δs : List (List ℕ)) (size base : ℕ) → base ≡ suc (length rs + length γs) * 64
    → sets (item_table rs γs size) base (concat (entry_rows δs)) ≡ item_table rs (γs ++ δs) size
rows_behind rs γs [] size base e = ap (λ (l : List (List ℕ)). item_table rs l size) (sym (append-nil γs))
rows_behind rs γs (δ ∷ δs) size base e =
    sets_join (item_table rs γs size) (entry_row δ) (concat (entry_rows δs)) base
    ∙ (ap (λ (m : List ℕ). sets m (base + length (entry_row δ)) (concat (entry_rows δs))) (table_entry rs γs δ size base e)
    ∙ (rows_behind rs (γs ++ δ ∷ []) δs size (base + length (entry_row δ)) (omega (arith, e, row-length 0 255 0 δ [], length-append γs (δ ∷ [])))
    ∙ ap (λ (l : List (List ℕ)). item_table rs l size) (append_assoc γs (δ ∷ []) δs)))

pub items_whole : (g : Grammar) (size : ℕ) (l : List EntryLine) → with_entries (layout g size) (length g.rules) l ≡ item_table g.rules (strings_of l) size
unfolding with_entries
items_whole g size l = rows_behind g.rules [] (strings_of l) size (suc (length g.rules) * 64) (omega arith)

pub blocks_hold : {g : Grammar} {b a : Slices} {states : ℕ} {es : List EntryLine} {ks : List KernelLine} {xs : List ActionLine} {named : List ℕ} → GrammarOnly g b
    → EntryMemory b.items (length g.rules) (length b.states) (length b.named) es a.items a.states named
    → KernelImage (length b.kernels) (length b.lookaheads) ks a.kernels a.lookaheads
    → ActionImage (is_entry_state es) (length b.kinds) (length b.values) (length b.gotos) (length b.named) xs a.kinds a.values a.gotos a.named
    → Holds (whole g (table_with states es ks xs)) b a
blocks_hold {g} {b} {a} {states} {es} k e i c = record {
  items_are = e.items_are ∙ (ap (λ (m : List ℕ). with_entries m (length g.rules) es) k.items_are ∙ items_whole g (length b.items) es);
  states_are = e.states_are;
  kernels_are = i.kernels_are;
  lookaheads_are = i.lookaheads_are;
  kinds_are = c.cells.kinds_are;
  values_are = c.cells.values_are;
  gotos_are = c.cells.gotos_are;
  named_are = c.named_are;
}
