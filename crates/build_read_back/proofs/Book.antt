-- The text of a table reads back as that table.
use Prim.Native.Nat.{ℕ, ◌≤◌}
use native.Mathlib.Omega.{arith}
use mathlib.Core.Path.{◌≡◌}
use mathlib.Core.List.{List, [], ◌∷◌, ◌++◌}
use borrow.Author.Tests.{le-leb, le-ltb}
use lib.ListN.{length}
use Rattle.language.specs.Grammar.{Grammar}
use Rattle.language.specs.WellFormed.{WellFormed}
use Rattle.range.proofs.RangeLaws.{true-within}
use Rattle.grammar.specs.Book.{grammar_of, accepted}
use Rattle.leftcorner.specs.Table.{Table}
use Rattle.table_head.specs.declared.Head.TheVariants as head
use Rattle.table.specs.Book.{head_of, whole, actions_of, kernels_of, entries_of, table_of, tables_of}
use Rattle.build_book.specs.Text.{line, entry_text, kernel_text, action_text, table_text}
use Rattle.build_book.proofs.Readable.{Readable}
use Rattle.build_read_back.proofs.Line.{Rest, rest_all, rest_past, line_read}
use Rattle.build_read_back.proofs.Entries.{entries-read}
use Rattle.build_read_back.proofs.Kernels.{kernels_read}
use Rattle.build_read_back.proofs.Actions.{actions_read, no_kernel_line}

module _ (g : Grammar) (t : Table) (W : WellFormed g) (R : Readable g t) where
  -- the first line
  head_read : (s w : List ℕ) {end : ℕ} → Rest s 0 (line 84 (t.states ∷ length t.entries ∷ []) ++ w) → Rest s end w
      → head_of s ≡ head.Read t.states (length t.entries) end
  unfolding head_of
  head_read s w r n =
      simp (
        line_read s 84 (t.states ∷ length t.entries ∷ []) w (omega arith) (omega arith)
            (simp (le-leb t.states 65535 (omega (arith, R.few_states)), le-leb (length t.entries) 65535 (omega (arith, R.few_entries)))) r n,
        true-within 1 t.states 255 R.some_state R.few_states,
        true-within 1 (length t.entries) 127 R.some_entry R.few_entries,
      )

  -- the blocks, one after the other
  blocks_read : (s : List ℕ) → Rest s 0 (line 84 (t.states ∷ length t.entries ∷ []) ++ (entry_text t.entries ++ (kernel_text t.kernels ++ action_text t.actions))) → table_of g s ≡ whole g t
  unfolding table_of entries_of kernels_of actions_of
  blocks_read s r =
      let entries = rest_past s (line 84 (t.states ∷ length t.entries ∷ [])) r in
      let kernels = rest_past s (entry_text t.entries) entries in
      let actions = rest_past s (kernel_text t.kernels) kernels in
      simp (
        head_read s (entry_text t.entries ++ (kernel_text t.kernels ++ action_text t.actions)) r entries,
        entries-read g t W R s (kernel_text t.kernels ++ action_text t.actions) entries kernels,
        kernels_read g t W R s (action_text t.actions) kernels actions (no_kernel_line g t W R s _ _ _ actions t.kernels),
        actions_read g t W R s actions,
      )

pub text_reads : (g : Grammar) (t : Table) → WellFormed g → Readable g t → table_of g (table_text t) ≡ whole g t
unfolding table_text
text_reads g t W R = blocks_read g t W R (table_text t) (rest_all (table_text t))

-- "book or scan file | 0 | 65,536 bytes"
pub books_read : (gs : List ℕ) (g : Grammar) (t : Table) → grammar_of gs ≡ accepted g → WellFormed g → Readable g t → length (table_text t) ≤ 65536
    → tables_of gs (table_text t) ≡ whole g t
unfolding tables_of
books_read gs g t e W R h = simp (le-ltb 65536 (length (table_text t)) h, e, text_reads g t W R)
