-- Kernel lines that are read: one at least and at most 1,023, each with a code, their states, items, dots and codes declared, in rising
-- order.
use Prim.Native.Nat.{ℕ, ◌≤◌}
use mathlib.Core.Path.{◌≡◌, subst}
use mathlib.Core.Logic.{⊎_elim}
use mathlib.Core.List.{List, [], ◌∷◌, ◌++◌}
use native.Mathlib.Omega.{arith}
use lib.Dec.{eqb}
use lib.ListN.{length, get_or, drop, length-drop, length-append}
use Rattle.language.specs.Sentence.{In}
use Rattle.language.proofs.GrammarLaws.{in_string, in_index}
use Rattle.range.proofs.TestLaws.{all_cond}
use Rattle.leftcorner.specs.Table.{KernelLine, K}
use Rattle.leftcorner.proofs.ReadOff.{clash}
use Rattle.table_order.specs.Order.{kernel_key}
use Rattle.table_order.proofs.OrderLaws.{RisingBy, rising_more}
use Rattle.table_lines.specs.declared.Judgement.{Judgement}
use Rattle.table_lines.specs.Line.{line_at}
use Rattle.table_lines.specs.Block.{Outcome, takes, stops, read}
use Rattle.table_lines.proofs.BlockLaws.{lines_keep}
use Rattle.table_lines.proofs.CapLaws.{at_most}
use Rattle.table_kernels.specs.Kernels.{judge_kernel, no_kernel, kernel_next, kernels_from}
use Rattle.table_kernels.proofs.NextLaws.{KernelFine, kernel_fine}
use Rattle.table_facts.proofs.Lines.{all_line, judged_goes, Came, judged_came, came_onward}
use Rattle.table_facts.proofs.Blocks.{block_ends, Each, each_none, each_more}

module _ (terminals states items : ℕ) (lens : ℕ → ℕ) where
  pub record KernelDeclared (q i k : ℕ) (σ : List ℕ) : Type 0 where
    pub state_in : (1 ≤ q) × (q ≤ states)
    pub item_in : (1 ≤ i) × (i ≤ items)
    pub dot_in : k ≤ lens i
    pub some_code : (d : ℕ) × In d σ
    pub codes_in_lem : (d : ℕ) → In d σ → d ≤ terminals

  abbrev pub Declared : KernelLine → Type 0
  Declared (K q i k σ) = KernelDeclared q i k σ

  fine_declared : (l : List KernelLine) (ns : List ℕ) → KernelFine terminals states items lens l ns → KernelDeclared (get_or ns 0 0) (get_or ns 1 0) (get_or ns 2 0) (drop 3 ns)
  fine_declared l ns f = record {
    state_in = f.state_in;
    item_in = f.item_in;
    dot_in = f.dot_in;
    some_code = (get_or (drop 3 ns) 0 0, in_string (drop 3 ns) 0 (omega (arith, f.long, length-drop 3 ns)));
    codes_in_lem = λ d m. let i = in_index m in omega (arith, at_most terminals (drop 3 ns) f.codes_in_lem i.0, i.2);
  }

-- where no kernel line stands, none is taken, and the block ends only after a line
pub none_taken : {B : Type 0} (at : ℕ) (l : List KernelLine) {x : KernelLine} {past : ℕ} → no_kernel at l ≡ takes x past → B
none_taken at [] e = clash cc
none_taken at (y ∷ l) e = clash cc

none_ends : (at : ℕ) (l : List KernelLine) → no_kernel at l ≡ stops → 1 ≤ length l
none_ends at [] e = clash cc
none_ends at (y ∷ l) e = omega arith

module _ (s : List ℕ) (terminals states items : ℕ) (lens : ℕ → ℕ) where
  abbrev next : ℕ → List KernelLine → Outcome KernelLine
  next = kernel_next s terminals states items lens

  abbrev judged_as : List KernelLine → ℕ → List ℕ → Judgement
  judged_as l letter ns = judge_kernel terminals states items lens l ns

  abbrev made_of : ℕ → List ℕ → KernelLine
  made_of letter ns = K (get_or ns 0 0) (get_or ns 1 0) (get_or ns 2 0) (drop 3 ns)

  pub kernel_came : (at : ℕ) (l : List KernelLine) (x : KernelLine) (past : ℕ) → next at l ≡ takes x past → Came s at (judged_as l) made_of x past
  unfolding kernel_next
  kernel_came at l x past =
      all_line C (line_at s at)
      (λ letter ns end e. all_cond C (eqb letter 75) (λ p. judged_came s at (judged_as l) made_of letter ns end e) (λ p. none_taken at l))
      (none_taken at l)
    where
      C : Outcome KernelLine → Type 0
      C o = o ≡ takes x past → Came s at (judged_as l) made_of x past

  kernel_ends : (at : ℕ) (l : List KernelLine) → next at l ≡ stops → 1 ≤ length l
  unfolding kernel_next
  kernel_ends at l =
      all_line C (line_at s at)
      (λ letter ns past e. all_cond C (eqb letter 75) (λ p. judged_goes (judged_as l letter ns) at (made_of letter ns) past) (λ p. none_ends at l))
      (none_ends at l)
    where
      C : Outcome KernelLine → Type 0
      C o = o ≡ stops → 1 ≤ length l

  abbrev Kept : List KernelLine → Type 0
  Kept l = Each (Declared terminals states items lens) l × (length l ≤ 1023) × RisingBy kernel_key l

  kernel_kept : (at : ℕ) (l : List KernelLine) (x : KernelLine) (past : ℕ) → Kept l → next at l ≡ takes x past → Kept (l ++ x ∷ [])
  kernel_kept at l x past h e =
      let c = kernel_came at l x past e in
      let f = kernel_fine terminals states items lens l c.numbers c.fine in
      subst (λ (y : KernelLine). Kept (l ++ y ∷ [])) c.made (
        each_more (Declared terminals states items lens) h.0 (fine_declared terminals states items lens l c.numbers f),
        omega (arith, f.few, length-append l (made_of 0 c.numbers ∷ [])),
        rising_more kernel_key l (made_of 0 c.numbers) h.2 f.after,
      )

  module _ (at : ℕ) {ks : List KernelLine} {end : ℕ} (e : kernels_from s terminals states items lens at ≡ read ks end) where
    kept : Kept ks
    kept = lines_keep Kept next kernel_kept 1024 at [] (each_none (Declared terminals states items lens), omega arith, tt) ks end e

    pub kernels_declared : Each (Declared terminals states items lens) ks
    kernels_declared = kept.0

    pub kernels_few : length ks ≤ 1023
    kernels_few = kept.1

    pub kernels_rise : RisingBy kernel_key ks
    kernels_rise = kept.2

    -- the block ends where no kernel line stands, never by its number of lines
    pub kernels_ended : kernel_next s terminals states items lens end ks ≡ stops
    kernels_ended =
        ⊎_elim (λ h. absurd (omega (arith, h.0, kernels_few))) (λ q. q)
        (block_ends next (λ at l x past q. came_onward (kernel_came at l x past q)) 1024 at [] e)

    pub kernels_some : 1 ≤ length ks
    kernels_some = kernel_ends end ks kernels_ended
