-- Memory between the blocks, by the heading that the code has.
use Prim.Native.Nat.{ℕ, ◌+◌, ◌≤◌}
use mathlib.Core.Path.{◌≡◌, sym, ap, subst}
use mathlib.Core.List.{List, []}
use mathlib.Core.Bool.{Bool}
use native.Mathlib.Omega.{arith}
use lib.ListN.{length}
use Rattle.language.specs.Grammar.{Grammar}
use Rattle.grammar_header.specs.declared.Heading.{Heading}
use Rattle.grammar.specs.Memory.{heading_of}
use Rattle.leftcorner.specs.Table.{EntryLine, KernelLine, ActionLine}
use Rattle.items.specs.Layout.{length_at}
use Rattle.items.specs.Layout as items
use Rattle.items.proofs.LayoutLaws.{layout_holds}
use Rattle.table_entries.specs.Memory.{RulesIn, HoldsRules, EntryMemory}
use Rattle.table_kernels.specs.Kernels.{kernels_from}
use Rattle.table_actions.specs.Memory.{ActionImage}
use Rattle.table_blocks.specs.declared.Blocks.TheVariants as blocks
use Rattle.table_blocks.specs.Blocks.{whole, lengths_of, table_with}
use Rattle.table_blocks.specs.Memory.{Slices, HoldsHeading, GrammarOnly, Holds, ReadsBlocks, blocks_read}
use Rattle.table_blocks.proofs.LengthLaws.{kernels_same, lengths_agree}
use Rattle.table_blocks.proofs.BlankLaws.{entry_start}

-- the figures of a grammar that was read
pub record Low (h : Heading) : Type 0 where
  pub few_terminals : h.terminals ≤ 63
  pub few_nonterminals : h.nonterminals ≤ 64
  pub few_rules : h.rules ≤ 127

module _ {g : Grammar} {b : Slices} {h : Heading} (k : GrammarOnly g b) (q : h ≡ heading_of g) where
  pub entries_at : {a c : ℕ} {l : List EntryLine} {i s n : List ℕ} → EntryMemory b.items h.rules a c l i s n → EntryMemory b.items (length g.rules) a c l i s n
  entries_at {a} {c} {l} {i} {s} {n} m = subst (λ (x : Heading). EntryMemory b.items x.rules a c l i s n) q m

  pub kernels_at : (s : List ℕ) (states at : ℕ) {count a c : ℕ} {l : List EntryLine} {i es n : List ℕ} → EntryMemory b.items h.rules a c l i es n → length l ≡ count
      → kernels_from s h.terminals states (h.rules + count) (length_at i) at ≡ kernels_from s h.terminals states (h.rules + count) (lengths_of g l) at
  kernels_at s states at {count} {a} {c} {l} {i} {es} {n} m e =
      kernels_same s h.terminals states (h.rules + count) (length_at i) (lengths_of g l)
      (λ j x y. lengths_agree g k.formed (length b.items) (omega (arith, k.formed.few_rules, k.room))
      (subst (λ (z : List ℕ). EntryMemory z (length g.rules) a c l i es n) k.items_are (entries_at m)) j x
      (omega (arith, y, e, ap (λ (z : Heading). z.rules) q))) at

  pub rules_at : RulesIn g b.items h.rules
  rules_at = subst (λ (x : Heading). RulesIn g b.items x.rules) (sym q) (record {
    formed = k.formed;
    holds = subst (λ (m : List ℕ). items.Holds m (length g.rules) g) (sym k.items_are)
        (layout_holds g k.formed (length b.items) (omega (arith, k.formed.few_rules, k.room)));
  })

module _ {h : Heading} {b : Slices} (k : HoldsHeading h b) where
  pub begun_low : Low h
  begun_low = record {
    few_terminals = omega (arith, ap (λ (x : Heading). x.terminals) k.heading, k.blank.formed.few_terminals);
    few_nonterminals = omega (arith, ap (λ (x : Heading). x.nonterminals) k.heading, k.blank.formed.few_nonterminals);
    few_rules = omega (arith, ap (λ (x : Heading). x.rules) k.heading, k.blank.formed.few_rules);
  }

  pub begun_entries : EntryMemory b.items h.rules (length b.states) (length b.named) [] b.items b.states b.named
  begun_entries =
      subst (λ (x : Heading). EntryMemory b.items x.rules (length b.states) (length b.named) [] b.items b.states b.named) (sym k.heading) (entry_start k.blank)

  pub begun_rules : HoldsRules b.items h.rules
  begun_rules = record { grammar = k.grammar; rules_in = rules_at k.blank k.heading }

pub memory_sized : {e : ℕ → Bool} {a b c n m : ℕ} {xs : List ActionLine} {k v g l : List ℕ} → n ≡ m → ActionImage e a b c n xs k v g l → ActionImage e a b c m xs k v g l
memory_sized {e} {a} {b} {c} {xs = xs} {k = k} {v = v} {g = g} {l = l} q h = subst (λ (z : ℕ). ActionImage e a b c z xs k v g l) q h

-- the numbers of lines that the code counted
pub all_blocks : {g : Grammar} {states count lines : ℕ} {b a : Slices} {es : List EntryLine} {ks : List KernelLine} {xs : List ActionLine} → length es ≡ count → length ks ≡ lines
    → Holds (whole g (table_with states es ks xs)) b a → ReadsBlocks g states b a (whole g (table_with states es ks xs)) (blocks.Read count lines)
all_blocks e i h = rw (← e, ← i) (blocks_read h)
