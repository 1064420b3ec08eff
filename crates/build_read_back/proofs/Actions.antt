-- The action lines of a table read back.
use Prim.Native.Nat.{ℕ, ◌≤◌}
use native.Mathlib.Omega.{arith}
use mathlib.Core.Path.{◌≡◌, refl, sym, ap, subst, ◌∙◌}
use mathlib.Core.Bool.{true}
use mathlib.Core.List.{List, [], ◌∷◌, ◌++◌, map, append-nil}
use borrow.Author.Tests.{le-leb, ne_eqb}
use lib.ListN.{length, length-append}
use Rattle.language.specs.Grammar.{Grammar, concat}
use Rattle.language.specs.Sentence.{In, here}
use Rattle.language.proofs.Member.{in_right}
use Rattle.language.specs.WellFormed as grammar
use Rattle.range.proofs.RangeLaws.{true-within}
use Rattle.symbol.proofs.KindLaws.{terminal_is, nonterminal_is}
use Rattle.leftcorner.specs.Table.{KernelLine, Action, S, N, A, P, ActionLine, L, Table}
use Rattle.table_order.specs.Order.{action_key}
use Rattle.table_order.proofs.OrderLaws.{RisingBy, rising_follows}
use Rattle.table_lines.specs.declared.Judgement.TheVariants.{Fine}
use Rattle.table_lines.specs.Line.{all_at_most, whole, line_at}
use Rattle.table_lines.specs.Block.{takes, read}
use Rattle.table_kernels.specs.Kernels.{no_kernel, kernel_next}
use Rattle.table_kernels.proofs.NextLaws.{kernel_broken}
use Rattle.table_actions.specs.Actions.{is_action, action_of, action_declared, judge_action, action_next, actions_from}
use Rattle.table_actions.proofs.NextLaws.{action_end, action_taken}
use Rattle.build_book.specs.Text.{line, action_bytes, action_text}
use Rattle.build_book.proofs.Readable.{Names, Readable}
use Rattle.build_read_back.proofs.Line.{Rest, rest_none, rest_past, rest_as, line_read, no_line}
use Rattle.build_read_back.proofs.Block.{lines_stopped}

-- ---- an action as a letter and a figure
abbrev letter_of : Action → ℕ
letter_of (S s) = 83
letter_of (N s) = 78
letter_of (A i) = 65
letter_of (P n) = 80

abbrev figure_of : Action → ℕ
figure_of (S s) = s
figure_of (N s) = s
figure_of (A i) = i
figure_of (P n) = n

bytes_are : (q X : ℕ) (x : Action) → action_bytes q X x ≡ line (letter_of x) (q ∷ X ∷ figure_of x ∷ [])
bytes_are q X (S s) = refl
bytes_are q X (N s) = refl
bytes_are q X (A i) = refl
bytes_are q X (P n) = refl

action_back : (x : Action) → action_of (letter_of x) (figure_of x) ≡ x
unfolding action_of
action_back (S s) = refl
action_back (N s) = refl
action_back (A i) = refl
action_back (P n) = refl

is_action_lem : (x : Action) → is_action (letter_of x) ≡ true
unfolding is_action
is_action_lem (S s) = refl
is_action_lem (N s) = refl
is_action_lem (A i) = refl
is_action_lem (P n) = refl

-- a letter, and not that of a kernel line
letter_is : (x : Action) → (65 ≤ letter_of x) × (letter_of x ≤ 90) × (letter_of x ≡ 75 → ⊥)
letter_is (S s) = (omega arith, omega arith, λ e. omega (arith, e))
letter_is (N s) = (omega arith, omega arith, λ e. omega (arith, e))
letter_is (A i) = (omega arith, omega arith, λ e. omega (arith, e))
letter_is (P n) = (omega arith, omega arith, λ e. omega (arith, e))

-- ---- the tests of an action line

-- a line with another letter is no kernel line
other_line : (s : List ℕ) (t states items : ℕ) (lens : ℕ → ℕ) (at : ℕ) (l : List KernelLine) {letter : ℕ} {ns : List ℕ} {next : ℕ}
    → line_at s at ≡ whole letter ns next → (letter ≡ 75 → ⊥) → kernel_next s t states items lens at l ≡ no_kernel at l
unfolding kernel_next
other_line s t states items lens at l {letter} e f = simp (e, ne_eqb letter 75 f)

names_declared : (g : Grammar) (t : Table) (X : ℕ) (x : Action) → Names g t X x
    → action_declared g.terminals g.nonterminals (length g.rules) t.states (letter_of x) X (figure_of x) ≡ true
unfolding action_declared
names_declared g t X (S s) h = simp (terminal_is g X h.0, true-within 1 s t.states h.1 h.2)
names_declared g t X (N s) h = simp (nonterminal_is g X h.0, true-within 1 s t.states h.1 h.2)
names_declared g t X (A i) h = simp (le-leb X g.terminals h.0, true-within 1 i (length g.rules) h.1 h.2)
names_declared g t X (P n) h = simp (le-leb X g.terminals h.0)

-- ---- the block
abbrev line_of : ActionLine → List ℕ
line_of (L q X x) = action_bytes q X x

text_is : (l : List ActionLine) → action_text l ≡ concat (map line_of l)
text_is [] = refl
text_is (L q X x ∷ l) = ap (λ (z : List ℕ). action_bytes q X x ++ z) (text_is l)

-- a line has a byte at least
line_long : (x : ActionLine) → 1 ≤ length (line_of x)
line_long (L q X x) = omega (arith, ap length (bytes_are q X x))

text_long : (l : List ActionLine) → length l ≤ length (concat (map line_of l))
text_long [] = omega arith
text_long (x ∷ l) = omega (arith, line_long x, text_long l, length-append (line_of x) (concat (map line_of l)))

module _ (g : Grammar) (t : Table) (W : grammar.WellFormed g) (R : Readable g t) (s : List ℕ) where
  -- every number of a line is a number
  names_low : (X : ℕ) (x : Action) → Names g t X x → (X ≤ 65535) × (figure_of x ≤ 65535)
  names_low X (S s) h = (omega (arith, h.0.1, W.few_terminals), omega (arith, h.2, R.few_states))
  names_low X (N s) h = (omega (arith, h.0.1, W.few_nonterminals), omega (arith, h.2, R.few_states))
  names_low X (A i) h = (omega (arith, h.0, W.few_terminals), omega (arith, h.2, W.few_rules))
  names_low X (P n) h = (omega (arith, h.0, W.few_terminals), omega (arith, h.1))

  numbers_low : (q X : ℕ) (x : Action) → In (L q X x) t.actions → all_at_most 65535 (q ∷ X ∷ figure_of x ∷ []) ≡ true
  numbers_low q X x m =
      let h = R.action q X x m in
      let n = names_low X x h.2 in
      simp (le-leb q 65535 (omega (arith, h.1, R.few_states)), le-leb X 65535 n.0, le-leb (figure_of x) 65535 n.1)

  action_read : (q X : ℕ) (x : Action) → In (L q X x) t.actions → {at past : ℕ} (w : List ℕ) → Rest s at (action_bytes q X x ++ w) → Rest s past w
      → line_at s at ≡ whole (letter_of x) (q ∷ X ∷ figure_of x ∷ []) past
  action_read q X x m w r n =
      line_read s (letter_of x) (q ∷ X ∷ figure_of x ∷ []) w (letter_is x).0 (letter_is x).1 (numbers_low q X x m)
      (rest_as (ap (λ (z : List ℕ). z ++ w) (bytes_are q X x)) r) n

  fine : (earlier : List ActionLine) (q X : ℕ) (x : Action) (later : List ActionLine) → t.actions ≡ earlier ++ L q X x ∷ later → In (L q X x) t.actions
      → judge_action g.terminals g.nonterminals (length g.rules) t.states earlier (letter_of x) (q ∷ X ∷ figure_of x ∷ []) ≡ Fine
  unfolding judge_action
  fine earlier q X x later e m =
      let h = R.action q X x m in
      let o = rising_follows action_key earlier (L q X x) later (subst (RisingBy action_key) e R.actions_rise) in
      simp (is_action_lem x, o, numbers_low q X x m, true-within 1 q t.states h.0 h.1, names_declared g t X x h.2)

  line_taken : (earlier : List ActionLine) (x : ActionLine) (later : List ActionLine) → t.actions ≡ earlier ++ x ∷ later → (at past : ℕ) (w : List ℕ) → Rest s at (line_of x ++ w) → Rest s past w
      → action_next s g.terminals g.nonterminals (length g.rules) t.states at earlier ≡ takes x past
  line_taken earlier (L q X x) later e at past w r n =
      let m : In (L q X x) t.actions = subst (In (L q X x)) (sym e) (in_right earlier here) in
      action_taken s g.terminals g.nonterminals (length g.rules) t.states at earlier
      (omega (arith, r.place, length-append (action_bytes q X x) w, line_long (L q X x))) (action_read q X x m w r n) (fine earlier q X x later e m)
      ∙ ap (λ (y : Action). takes (L q X y) past) (action_back x)

  pub actions_read : {at : ℕ} → Rest s at (action_text t.actions)
      → actions_from s g.terminals g.nonterminals (length g.rules) t.states at ≡ read t.actions (length s)
  actions_read r =
      lines_stopped s line_of (action_next s g.terminals g.nonterminals (length g.rules) t.states) t.actions line_taken []
      (rest_as (text_is t.actions ∙ sym (append-nil (concat (map line_of t.actions)))) r) (rest_none s) (length s)
      (omega (arith, r.place, text_long t.actions, ap length (text_is t.actions)))
      (action_end s g.terminals g.nonterminals (length g.rules) t.states (length s) t.actions (omega arith))

  -- what stands at the first action line, or at the book's end, is no kernel line
  pub no_kernel_line : (states items : ℕ) (lens : ℕ → ℕ) {at : ℕ} → Rest s at (action_text t.actions) → (l : List KernelLine)
      → kernel_next s g.terminals states items lens at l ≡ no_kernel at l
  no_kernel_line states items lens {at} r l = go t.actions refl r
    where
      go : (xs : List ActionLine) → t.actions ≡ xs → Rest s at (action_text xs) → kernel_next s g.terminals states items lens at l ≡ no_kernel at l
      go [] e r = kernel_broken s g.terminals states items lens at l (no_line s at r)
      go (L q X x ∷ xs) e r =
          other_line s g.terminals states items lens at l
          (action_read q X x (subst (In (L q X x)) (sym e) here) (action_text xs) r (rest_past s (action_bytes q X x) r)) (letter_is x).2
