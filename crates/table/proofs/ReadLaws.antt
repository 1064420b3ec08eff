-- What comes of a book, by its first line and by its blocks.
use Prim.Native.Nat.{ℕ}
use mathlib.Core.Path.{◌≡◌}
use mathlib.Core.List.{List}
use native.Mathlib.Omega.{arith}
use lib.ListN.{length}
use Rattle.language.specs.Grammar.{Grammar}
use Rattle.reply.specs.declared.Refusal.{Refusal}
use Rattle.grammar_header.specs.declared.Heading.{Heading}
use Rattle.grammar.specs.Memory.{heading_of}
use Rattle.table_head.specs.declared.Head.TheVariants as head
use Rattle.table_blocks.specs.declared.Blocks.{Blocks}
use Rattle.table_blocks.specs.declared.Blocks.TheVariants as blocks
use Rattle.table_blocks.specs.Memory.{ReadsBlocks, blocks_read, blocks_refused}
use Rattle.table.specs.declared.TableReply.TheVariants as reply
use Rattle.table.specs.Book.{head_of, Reading, rejected, entries_of, table_of}
use Rattle.table.specs.Memory.{Slices, Fills, filled_with, denied}

module _ (g : Grammar) (s : List ℕ) where
  pub head_refused : {why : Refusal} → head_of s ≡ head.Refused why → table_of g s ≡ rejected why
  unfolding table_of
  head_refused e = simp e

  pub head_read : {states entries first : ℕ} → head_of s ≡ head.Read states entries first → table_of g s ≡ entries_of g s states entries first
  unfolding table_of
  head_read e = simp e

-- ---- the code's answer to the blocks is that to the book
module _ {g : Grammar} {states : ℕ} {b a : Slices} {x : Reading} {r : Blocks} (h : ReadsBlocks g states b a x r) where
  pub blocks_deny : {why : Refusal} → r ≡ blocks.Refused why → Fills b a x (reply.Refused why)
  blocks_deny {why} e = go h e
    where
      go : {x : Reading} {r : Blocks} → ReadsBlocks g states b a x r → r ≡ blocks.Refused why → Fills b a x (reply.Refused why)
      go (blocks_read k) e = let z : ◌≡◌ {A = ℕ} 0 1 = cc in absurd (omega arith)
      go (blocks_refused {why = v}) e = let q : why ≡ v = cc in rw q denied

  pub blocks_fill : {count lines : ℕ} {t : Heading} → r ≡ blocks.Read count lines → t ≡ heading_of g
      → Fills b a x (reply.Read (record { grammar = t; states = states; entries = count; kernels = lines }))
  blocks_fill {count} {lines} {t} e q = go h e
    where
      go : {x : Reading} {r : Blocks} → ReadsBlocks g states b a x r → r ≡ blocks.Read count lines
          → Fills b a x (reply.Read (record { grammar = t; states = states; entries = count; kernels = lines }))
      go (blocks_read {es = es} {ks = ks} k) e =
          let m : count ≡ length es = cc in
          let n : lines ≡ length ks = cc in
          rw (q, m, n) (filled_with k)
      go blocks_refused e = let z : ◌≡◌ {A = ℕ} 0 1 = cc in absurd (omega arith)
