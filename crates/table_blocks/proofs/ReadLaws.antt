-- What comes of the blocks, one after another. h is the heading of the grammar g.
use Prim.Native.Nat.{ℕ, zero, suc, ◌+◌, ◌≤◌}
use mathlib.Core.Path.{◌≡◌, ap, subst}
use mathlib.Core.List.{List, [], ◌∷◌, ◌++◌}
use native.Mathlib.Omega.{arith}
use lib.ListN.{length, length-append}
use Rattle.language.specs.Grammar.{Grammar}
use Rattle.reply.specs.declared.Refusal.{Refusal}
use Rattle.grammar_header.specs.declared.Heading.{Heading}
use Rattle.grammar.specs.Memory.{heading_of}
use Rattle.leftcorner.specs.Table.{EntryLine, KernelLine, ActionLine}
use Rattle.table_lines.specs.Block.{Outcome, takes, stops, refuses, Lines, read, refused, on_outcome, lines_from}
use Rattle.table_entries.specs.Entries.{entries_from}
use Rattle.table_kernels.specs.Kernels.{kernels_from}
use Rattle.table_actions.specs.Actions.{actions_from}
use Rattle.table_blocks.specs.Blocks.{whole, rejected, lengths_of, table_with, actions_of, kernels_of, entries_of}

-- a block has no more lines than it may have
pub lines_few : {A : Type 0} (next : ℕ → List A → Outcome A) (k at : ℕ) (l : List A) {m : List A} {end : ℕ} → lines_from k next at l ≡ read m end → length m ≤ length l + k
unfolding lines_from
lines_few next zero at l {m} e = let q : l ≡ m = cc in omega (arith, ap length q)
lines_few {A} next (suc k) at l {m} {end} e = go (next at l) e (λ x past. lines_few next k past (l ++ x ∷ []))
  where
    go : (o : Outcome A) → on_outcome o (λ x past. lines_from k next past (l ++ x ∷ [])) (read l at) refused ≡ read m end
        → ((x : A) (past : ℕ) → lines_from k next past (l ++ x ∷ []) ≡ read m end → length m ≤ length (l ++ x ∷ []) + k) → length m ≤ length l + suc k
    go (takes x past) e f = omega (arith, f x past e, length-append l (x ∷ []))
    go stops e f = let q : l ≡ m = cc in omega (arith, ap length q)
    go (refuses why) e f = let z : ◌≡◌ {A = ℕ} 0 1 = cc in absurd (omega arith)

module _ (g : Grammar) (s : List ℕ) (states : ℕ) {h : Heading} (q : h ≡ heading_of g) where
  module _ (entries first : ℕ) where
    as_entries : {x : Lines EntryLine} → entries_from entries s h.terminals h.nonterminals g.rules states first ≡ x
        → entries_from entries s g.terminals g.nonterminals g.rules states first ≡ x
    as_entries {x} e = subst (λ (k : Heading). entries_from entries s k.terminals k.nonterminals g.rules states first ≡ x) q e

    pub entries-refused : {why : Refusal} → entries_from entries s h.terminals h.nonterminals g.rules states first ≡ refused why → entries_of g s states entries first ≡ rejected why
    unfolding entries_of
    entries-refused e = simp (as_entries e)

    pub entries-read : {es : List EntryLine} {at : ℕ} → entries_from entries s h.terminals h.nonterminals g.rules states first ≡ read es at
        → entries_of g s states entries first ≡ kernels_of g s states es at
    unfolding entries_of
    entries-read e = simp (as_entries e)

  module _ (es : List EntryLine) (at : ℕ) where
    as_kernels : {x : Lines KernelLine} {items : ℕ} → items ≡ h.rules + length es → kernels_from s h.terminals states items (lengths_of g es) at ≡ x
        → kernels_from s g.terminals states (length g.rules + length es) (lengths_of g es) at ≡ x
    as_kernels {x} {items} c e =
        subst (λ (k : Heading). kernels_from s k.terminals states (k.rules + length es) (lengths_of g es) at ≡ x) q
        (subst (λ (n : ℕ). kernels_from s h.terminals states n (lengths_of g es) at ≡ x) c e)

    pub kernels_refused : {why : Refusal} {items : ℕ} → items ≡ h.rules + length es → kernels_from s h.terminals states items (lengths_of g es) at ≡ refused why
        → kernels_of g s states es at ≡ rejected why
    unfolding kernels_of
    kernels_refused c e = simp (as_kernels c e)

    pub kernels_read : {ks : List KernelLine} {next items : ℕ} → items ≡ h.rules + length es → kernels_from s h.terminals states items (lengths_of g es) at ≡ read ks next
        → kernels_of g s states es at ≡ actions_of g s states es ks next
    unfolding kernels_of
    kernels_read c e = simp (as_kernels c e)

  module _ (es : List EntryLine) (ks : List KernelLine) (at : ℕ) where
    as_actions : {x : Lines ActionLine} → actions_from s h.terminals h.nonterminals h.rules states at ≡ x
        → actions_from s g.terminals g.nonterminals (length g.rules) states at ≡ x
    as_actions {x} e = subst (λ (k : Heading). actions_from s k.terminals k.nonterminals k.rules states at ≡ x) q e

    pub actions_refused : {why : Refusal} → actions_from s h.terminals h.nonterminals h.rules states at ≡ refused why → actions_of g s states es ks at ≡ rejected why
    unfolding actions_of
    actions_refused e = simp (as_actions e)

    pub actions_read : {xs : List ActionLine} {end : ℕ} → actions_from s h.terminals h.nonterminals h.rules states at ≡ read xs end
        → actions_of g s states es ks at ≡ whole g (table_with states es ks xs)
    unfolding actions_of
    actions_read e = simp (as_actions e)
