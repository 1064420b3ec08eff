-- Kernel lines and their lookaheads in memory are those of the table, and are safe to read.
use Prim.Native.Nat.{ℕ, ◌+◌, ◌*◌, ◌≤◌, ◌<◌}
use native.Mathlib.Nat.{add-zero}
use native.Mathlib.Omega.{arith}
use mathlib.Core.Path.{◌≡◌, refl, sym, ap, ◌∙◌}
use mathlib.Core.Logic.{inl, inr}
use mathlib.Core.List.{List}
use mathlib.Core.Option.{Option, some}
use lib.ListN.{length, get_or}
use Rattle.language.specs.Grammar.{Grammar, at}
use Rattle.language.proofs.GrammarLaws.{at_below, at_range, rule_range}
use Rattle.language.specs.WellFormed as language
use Rattle.leftcorner.specs.Table.{KernelLine, K, Table, symbols_of, string_of}
use Rattle.leftcorner.proofs.Sources.{symbols_rule, symbols_entry}
use Rattle.memory.specs.Memory.{state_at, item_at, dot_at, HoldsKernels}
use Rattle.memory.specs.Fits.{Fits}
use Rattle.memory.proofs.RangeLaws.{entry_range}
use Rattle.closure.specs.InMemory.{DeclaredItem}
use Rattle.kernel_lines.specs.Lines.{Lines}
use Rattle.kernel_lines.proofs.HeldLaws.{at_in}
use Rattle.table_lines.specs.Image.{image, flag}
use Rattle.table_lines.proofs.ImageLaws.{image_long, image_read}
use Rattle.table_kernels.specs.Memory.{figure_of, figure_at, is_in, codes_of, lookahead_at}
use Rattle.table_kernels.proofs.ReadLaws.{figure_back, code_back}
use Rattle.check_views.proofs.Tests.{on_true, true_on, true_in, in_true}

-- an item that is declared has a number within the items, and at most 15 symbols
module _ (g : Grammar) (t : Table) (W : language.WellFormed g) (F : Fits g t) where
  declared_low : (i : ℕ) → DeclaredItem g t i → i ≤ length g.rules + length t.entries
  declared_low i (inl (r, e)) = omega (arith, (rule_range g i e).1)
  declared_low i (inr (j, s, γ, ei, e)) = omega (arith, ei, (entry_range t refl j e).1)

  declared_short : (i : ℕ) → DeclaredItem g t i → length (symbols_of g t i) ≤ 15
  declared_short i (inl (r, e)) = omega (arith, ap length (symbols_rule g t i r e), (W.formed i e).short)
  declared_short i (inr (j, s, γ, ei, e)) =
      omega (arith, ap (λ (n : ℕ). length (symbols_of g t n)) ei, ap length (symbols_entry g t j s γ e ∙ ap string_of e), F.string_short j s γ e)

  -- kernels of `a` bytes, lookaheads of `b`
  module _ {kernels lookaheads : List ℕ} (a b : ℕ) (a-room : 4096 ≤ a) (b-room : 65536 ≤ b)
      (kernels_are : kernels ≡ image a (figure_at t.kernels)) (lookaheads_are : lookaheads ≡ image b (lookahead_at t.kernels)) where
    figure : (l j : ℕ) {x : KernelLine} → at t.kernels l ≡ some x → j < 4 → get_or kernels (l * 4 + j) 0 ≡ figure_of (some x) j
    figure l j e h =
        image_read a (figure_at t.kernels) kernels_are (l * 4 + j) (omega (arith, h, at_range t.kernels l e, F.few_kernels, a-room))
        ∙ (figure_back t.kernels l j h ∙ ap (λ (o : Option KernelLine). figure_of o j) e)

    line_state : (l q i k : ℕ) {σ : List ℕ} → at t.kernels l ≡ some (K q i k σ) → state_at kernels l ≡ q
    line_state l q i k e = ap (λ (n : ℕ). get_or kernels n 0) (sym (add-zero (l * 4))) ∙ figure l 0 e (omega arith)

    line_item : (l q i k : ℕ) {σ : List ℕ} → at t.kernels l ≡ some (K q i k σ) → item_at kernels l ≡ i
    line_item l q i k e = figure l 1 e (omega arith)

    line_dot : (l q i k : ℕ) {σ : List ℕ} → at t.kernels l ≡ some (K q i k σ) → dot_at kernels l ≡ k
    line_dot l q i k e = figure l 2 e (omega arith)

    code : (l q i k d : ℕ) {σ : List ℕ} → at t.kernels l ≡ some (K q i k σ) → d < 64 → get_or lookaheads (l * 64 + d) 0 ≡ flag (is_in d σ)
    code l q i k d e h =
        image_read b (lookahead_at t.kernels) lookaheads_are (l * 64 + d) (omega (arith, h, at_range t.kernels l e, F.few_kernels, b-room))
        ∙ (code_back t.kernels l d h ∙ ap (λ (o : Option KernelLine). flag (is_in d (codes_of o))) e)

    pub holds_kernels : HoldsKernels kernels lookaheads t
    holds_kernels = record {
      line_state = line_state;
      line_item = line_item;
      line_dot = line_dot;
      code_on = λ l q i k d {σ} e m.
          let low : d < 64 = omega (arith, F.code_declared q i k d σ (at_in t.kernels l e) m, W.few_terminals) in
          true_on (is_in d σ) (code l q i k d e low) (in_true d σ m);
      on_code = λ l q i k d {σ} e low m. true_in d σ (on_true (is_in d σ) (code l q i k d e low) m);
    }

    pub kernel_lines : Lines kernels (length t.kernels) (length g.rules + length t.entries)
    kernel_lines = record {
      room = omega (arith, F.few_kernels, a-room, image_long a (figure_at t.kernels) kernels_are);
      few = F.few_kernels;
      item_low = λ l h. item_low l (at_below t.kernels l h);
      dot_low = λ l h. dot_low l (at_below t.kernels l h);
    }
      where
        item_low : (l : ℕ) → (x : KernelLine) × (at t.kernels l ≡ some x) → item_at kernels l ≤ length g.rules + length t.entries
        item_low l (K q i k σ, e) = omega (arith, line_item l q i k e, declared_low i (F.form.item_declared q i k σ (at_in t.kernels l e)))

        dot_low : (l : ℕ) → (x : KernelLine) × (at t.kernels l ≡ some x) → dot_at kernels l ≤ 15
        dot_low l (K q i k σ, e) =
            let m = at_in t.kernels l e in
            omega (arith, line_dot l q i k e, F.dot_within q i k σ m, declared_short i (F.form.item_declared q i k σ m))

    pub codes_room : length t.kernels * 64 ≤ length lookaheads
    codes_room = omega (arith, F.few_kernels, b-room, image_long b (lookahead_at t.kernels) lookaheads_are)
