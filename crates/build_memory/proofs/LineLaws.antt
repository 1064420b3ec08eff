-- The kernel lines in memory, with their lookaheads, are those of the builder's table.
use Prim.Native.Nat.{ℕ, suc, ◌+◌, ◌<◌}
use native.Mathlib.Omega.{arith}
use mathlib.Core.Path.{◌≡◌, refl, sym, subst}
use mathlib.Core.List.{List}
use mathlib.Core.Option.{some}
use Rattle.language.specs.Grammar.{Grammar, at}
use Rattle.language.specs.Sentence.{In}
use Rattle.language.proofs.GrammarLaws.{at_range}
use Rattle.std.specs.Prelude.{◌↔◌}
use Rattle.leftcorner.specs.Table.{K}
use Rattle.analysis.specs.ByRules.{FirstByRules}
use Rattle.analysis.proofs.Decided.{first?}
use Rattle.analysis.specs.InMemory.{SetsOf}
use Rattle.memory.specs.Memory.{HoldsKernels, state_at, item_at, dot_at}
use Rattle.analysis.specs.FirstBy.{FirstBy}
use Rattle.build_states.specs.Strings.{entry_strings, entry_lines}
use Rattle.build_states.specs.Lookaheads.{Lookahead}
use Rattle.build_states.proofs.CodeLaws.{look_over}
use Rattle.build_states.proofs.Distinct.{at_in}
use Rattle.build_book.proofs.LineLaws.{same_entries, code_only, code_every, line_of}
use Rattle.build_book.proofs.Carried.{look_low}
use Rattle.build_book.proofs.ItemForm.{items_lines}
use Rattle.build_states.specs.Lookaheads.{terminal_codes}
use Rattle.build_states.proofs.CodeLaws.{first_in, codes_low}
use Rattle.build_kernels.proofs.ItemLines.{item_line}
use Rattle.analysis.proofs.FirstLaws.{first_flags}
use Rattle.build_lookaheads.specs.StatesHeld.{HoldsLookaheads}
use Rattle.build_cells.specs.Cells.{items_of, HoldsMoves, HoldsLines, Filled}
use Rattle.build_memory.specs.Stages.{Stated, Numbered, Settled}
use Rattle.build_memory.proofs.StateLaws.{limits_of, entries_hold}
use Rattle.build_memory.proofs.MoveLaws.{moves_hold}

at_same : {g : Grammar} {F : List ℕ → ℕ → ℕ → Type 0} {q i k p j n d : ℕ} → p ≡ q → j ≡ i → n ≡ k → Lookahead g F q i k d → Lookahead g F p j n d
at_same {g} {F} {q} {i} {k} {p} {j} {n} {d} a b c h =
    subst (λ (z : ℕ). Lookahead g F z j n d) (sym a) (subst (λ (z : ℕ). Lookahead g F q z n d) (sym b) (subst (λ (z : ℕ). Lookahead g F q i z d) (sym c) h))

module _ {g : Grammar} {items kernels kinds values gotos : List ℕ} {terminals goal rules strings all lines : ℕ}
    (S : Stated g items kernels kinds values gotos terminals goal rules strings all lines) {codes : ℕ} {nul fst lookaheads : List ℕ}
    (same : (β : List ℕ) (d c : ℕ) → FirstBy codes nul fst β d c ↔ FirstByRules g β d c)
    (H : HoldsLookaheads (Lookahead g (FirstBy codes nul fst)) kernels lookaheads lines) where
  low : (l q i k : ℕ) (σ : List ℕ) → at (items_of g).kernels l ≡ some (K q i k σ) → l < lines
  low l q i k σ e =
      let z = items_lines g (FirstByRules g) (first? g) (terminal_codes g) (first_in g) in
      let y = S.found.line_count in
      let x = at_range (items_of g).kernels l e in omega (arith, x, y, z)

  -- what memory has of line l
  line : (l q i k : ℕ) (σ : List ℕ) → at (items_of g).kernels l ≡ some (K q i k σ) → (state_at kernels l ≡ q) × (item_at kernels l ≡ i) × (dot_at kernels l ≡ k)
  line l q i k σ e = item_line g (FirstByRules g) (first? g) (terminal_codes g) (first_in g) S.found.holds_sets l q i k σ e

  -- its codes are its lookaheads
  code : (l q i k : ℕ) (σ : List ℕ) → at (items_of g).kernels l ≡ some (K q i k σ) → (d : ℕ) → In d σ → Lookahead g (FirstByRules g) q i k d
  code l q i k σ e d m =
      let w = line_of g (FirstByRules g) (first? g) (terminal_codes g) (first_in g) q i k σ (at_in (items_of g).kernels l (K q i k σ) e) in
      at_same refl w.item w.dot (code_only g (FirstByRules g) (first? g) (terminal_codes g) (first_in g) q w.number d (subst (In d) w.codes_are m)).0

  listed : (l q i k : ℕ) (σ : List ℕ) → at (items_of g).kernels l ≡ some (K q i k σ) → (d : ℕ) → Lookahead g (FirstByRules g) q i k d → In d σ
  listed l q i k σ e d h =
      let w = line_of g (FirstByRules g) (first? g) (terminal_codes g) (first_in g) q i k σ (at_in (items_of g).kernels l (K q i k σ) e) in
      subst (In d) (sym w.codes_are)
      (code_every g (FirstByRules g) (first? g) (terminal_codes g) (first_in g) q w.number d
      (look_low g (FirstByRules g) (first? g) (terminal_codes g) (first_in g) (limits_of S) (codes_low g) h) (at_same refl (sym w.item) (sym w.dot) h))

  pub holds_lines : HoldsKernels kernels lookaheads (items_of g)
  holds_lines = record {
    line_state = λ l q i k e. (line l q i k _ e).0;
    line_item = λ l q i k e. (line l q i k _ e).1;
    line_dot = λ l q i k e. (line l q i k _ e).2;
    code_on = λ l q i k d e m.
        let w = line l q i k _ e in
        H.every l d (low l q i k _ e) (at_same w.0 w.1 w.2 (look_over g (FirstByRules g) (FirstBy codes nul fst) (λ β x y. (same β x y).1) (code l q i k _ e d m)));
    on_code = λ l q i k d e n on.
        let w = line l q i k _ e in
        listed l q i k _ e d (at_same (sym w.0) (sym w.1) (sym w.2) (look_over g (FirstBy codes nul fst) (FirstByRules g) (λ β x y. (same β x y).0) (H.only l d (low l q i k _ e) n on)));
  }

  pub lines_held : {entries : List ℕ} → codes ≡ terminals + 1 → Numbered entries strings → HoldsLines g items entries kernels lookaheads nul fst rules strings lines all codes
  lines_held c N = record {
    limits = limits_of S;
    productive = S.entered.productive;
    reached = S.entered.reached;
    same_first = same;
    rule_count = S.entered.rule_count;
    entry_count = S.entered.entry_count;
    line_count = S.found.line_count;
    state_count = S.found.state_count;
    code_count = let z = S.entered.terminal_count in omega (arith, c, z);
    holds_items = S.entered.holds_items (items_of g) entries_are;
    holds_entries = entries_hold S N (items_of g) entries_are;
    holds_kernels = holds_lines;
  }
    where
      entries_are : (items_of g).entries ≡ entry_lines 1 (entry_strings g)
      entries_are = same_entries g (FirstByRules g) (first? g) (terminal_codes g) (first_in g)

-- the lookaheads and cells that are found from there
pub settled_of : {g : Grammar} {items kernels kinds values gotos : List ℕ} {terminals goal rules strings all lines : ℕ}
    → Stated g items kernels kinds values gotos terminals goal rules strings all lines → {entries nul fst lookaheads k v : List ℕ} {r : ℕ} → Numbered entries strings → SetsOf g nul fst
    → HoldsLookaheads (Lookahead g (FirstBy (terminals + 1) nul fst)) kernels lookaheads lines
    → (HoldsLines g items entries kernels lookaheads nul fst rules strings lines all (terminals + 1) → HoldsMoves g kinds values gotos → Filled g k v gotos r)
    → Settled g kernels lookaheads k v gotos r
settled_of {g} {terminals = terminals} T {nul = nul} {fst = fst} N F H fill =
    record { holds_kernels = holds_lines T same H; filled = fill (lines_held T same H refl N) (moves_hold T) }
  where
    count : terminals + 1 ≡ suc g.terminals
    count = let z = T.entered.terminal_count in omega (arith, z)

    same : (β : List ℕ) (d c : ℕ) → FirstBy (terminals + 1) nul fst β d c ↔ FirstByRules g β d c
    same β d c = first_flags g T.entered.formed.few_terminals count F β d c
