-- What each slice holds of a table, and memory before and after the blocks of its book.
use Rattle.std.specs.Prelude.{ℕ, ◌≤◌, ◌≡◌, List, ◌||◌, length, replicate}
use Rattle.language.specs.Grammar.{Grammar}
use Rattle.language.specs.WellFormed.{WellFormed}
use Rattle.grammar_header.specs.declared.Heading.{Heading}
use Rattle.reply.specs.declared.Refusal.{Refusal}
use Rattle.grammar.specs.Memory.{heading_of}
use Rattle.items.specs.Layout.{item_table, layout}
use Rattle.leftcorner.specs.Table.{EntryLine, KernelLine, ActionLine, Table}
use Rattle.table_lines.specs.Image.{image, flag}
use Rattle.table_entries.specs.Memory.{strings_of, state_at, is_entry_state}
use Rattle.table_kernels.specs.Memory.{figure_at, lookahead_at}
use Rattle.table_actions.specs.Memory.{kind_at, value_at, goto_at, is_named}
use Rattle.table_blocks.specs.declared.Blocks.{Blocks}
use Rattle.table_blocks.specs.declared.Blocks.TheVariants as blocks
use Rattle.table_blocks.specs.Blocks.{Reading, whole, rejected, table_with}

-- a slice of `size` figures, of which the table gives each; zeros after a refusal
abbrev pub filled : (Grammar → Table → ℕ → ℕ) → Reading → ℕ → List ℕ
filled f (whole g t) size = image size (f g t)
filled f (rejected why) size = replicate size 0

abbrev pub items_of : Reading → ℕ → List ℕ
items_of (whole g t) size = item_table g.rules (strings_of t.entries) size
items_of (rejected why) size = replicate size 0

abbrev pub states_of : Reading → ℕ → List ℕ
states_of = filled (λ g t. state_at t.entries)

abbrev pub kernels_of : Reading → ℕ → List ℕ
kernels_of = filled (λ g t. figure_at t.kernels)

abbrev pub lookaheads_of : Reading → ℕ → List ℕ
lookaheads_of = filled (λ g t. lookahead_at t.kernels)

abbrev pub kinds_of : Reading → ℕ → List ℕ
kinds_of = filled (λ g t. kind_at t.actions)

abbrev pub values_of : Reading → ℕ → List ℕ
values_of = filled (λ g t. value_at t.actions)

abbrev pub gotos_of : Reading → ℕ → List ℕ
gotos_of = filled (λ g t. goto_at t.actions)

-- the states of entries and those that a line S or N names as next
abbrev pub named_of : Reading → ℕ → List ℕ
named_of = filled (λ g t q. flag (is_entry_state t.entries q || is_named t.actions q))

-- ---- the slices together
pub record Slices : Type 0 where
  pub items : List ℕ
  pub states : List ℕ
  pub kernels : List ℕ
  pub lookaheads : List ℕ
  pub kinds : List ℕ
  pub values : List ℕ
  pub gotos : List ℕ
  pub named : List ℕ

abbrev pub slices : (items states kernels lookaheads kinds values gotos named : List ℕ) → Slices
slices i s k l c v g n = record { items = i; states = s; kernels = k; lookaheads = l; kinds = c; values = v; gotos = g; named = n }

abbrev pub Zero : List ℕ → Type 0
Zero l = l ≡ replicate (length l) 0

-- all but the items are zeros
pub record Cleared (b : Slices) : Type 0 where
  pub states_none : Zero b.states
  pub kernels_none : Zero b.kernels
  pub lookaheads_none : Zero b.lookaheads
  pub kinds_none : Zero b.kinds
  pub values_none : Zero b.values
  pub gotos_none : Zero b.gotos
  pub named_none : Zero b.named

-- memory holds the rules of g and nothing else; all that reading needs of the slices' lengths is room for items
pub record GrammarOnly (g : Grammar) (b : Slices) : Type 0 where
  pub formed : WellFormed g
  pub items_are : b.items ≡ layout g (length b.items)
  pub cleared : Cleared b
  pub room : 16640 ≤ length b.items

pub record HoldsHeading (h : Heading) (b : Slices) : Type 0 where
  pub grammar : Grammar
  pub blank : GrammarOnly grammar b
  pub heading : h ≡ heading_of grammar

-- the slices b, with this reading's result, are a
pub record Holds (x : Reading) (b a : Slices) : Type 0 where
  pub items_are : a.items ≡ items_of x (length b.items)
  pub states_are : a.states ≡ states_of x (length b.states)
  pub kernels_are : a.kernels ≡ kernels_of x (length b.kernels)
  pub lookaheads_are : a.lookaheads ≡ lookaheads_of x (length b.lookaheads)
  pub kinds_are : a.kinds ≡ kinds_of x (length b.kinds)
  pub values_are : a.values ≡ values_of x (length b.values)
  pub gotos_are : a.gotos ≡ gotos_of x (length b.gotos)
  pub named_are : a.named ≡ named_of x (length b.named)

-- what the code's answer to the blocks is, by what should come of them; a refusal leaves the slices free
pub data ReadsBlocks (g : Grammar) (states : ℕ) (b a : Slices) : Reading → Blocks → Type 0 where
  blocks_read : {es : List EntryLine} {ks : List KernelLine} {xs : List ActionLine} → Holds (whole g (table_with states es ks xs)) b a
      → ReadsBlocks g states b a (whole g (table_with states es ks xs)) (blocks.Read (length es) (length ks))
  blocks_refused : {why : Refusal} → ReadsBlocks g states b a (rejected why) (blocks.Refused why)
