-- The builder's memory as that of a table: its entries alone, and its kernel lines with the lookaheads so far.
use Prim.Native.Nat.{ℕ, zero, suc, ◌+◌, ◌*◌, ◌≤◌, ◌<◌}
use mathlib.Core.Path.{◌≡◌, refl, sym, ap, subst, ◌∙◌}
use mathlib.Core.List.{List, [], ◌∷◌}
use mathlib.Core.Option.{some}
use native.Mathlib.Decide.{ℕ_discrete}
use native.Mathlib.Omega.{arith}
use lib.ListN.{length, get_or}
use Rattle.language.specs.Grammar.{Grammar, at}
use Rattle.language.specs.Sentence.{In}
use Rattle.language.proofs.GrammarLaws.{at_range}
use Rattle.leftcorner.specs.Table.{E, KernelLine, K, Table, entry_at}
use Rattle.leftcorner.specs.Construction.{KernelAt}
use Rattle.leftcorner.proofs.ItemStrings.{wanted_declared}
use Rattle.leftcorner.proofs.ReadOff.{clash}
use Rattle.fixpoint.specs.Flags.{On}
use Rattle.memory.specs.Memory.{HoldsKernels, state_at, item_at, dot_at}
use Rattle.memory.specs.Fits.{Fits}
use Rattle.memory.specs.Held.{HoldsTable}
use Rattle.closure.specs.InMemory.{DeclaredItem, InMemory}
use Rattle.inclusions.specs.Included.{FlagAsked}
use Rattle.inclusions.proofs.FlagLaws.{flag_line}
use Rattle.build_states.specs.Strings.{entry_strings, entry_lines}
use Rattle.build_states.proofs.Distinct.{in_at}
use Rattle.build_states.proofs.EntryLaws.{entry_line, one_entry, lines_length}
use Rattle.build_states.specs.States.{range, keep, states}
use Rattle.build_states.proofs.Lists.{in_range, range_in, keep_only, keep_every}
use Rattle.build_states.proofs.Limits.{Limits, declared, wanted_short, wanted_filled}
use Rattle.build_book.proofs.BuiltForm.{kernel_known}
use Rattle.build_lookaheads.specs.StatesHeld.{entry_table, StatesHeld}

-- ---- flags as codes
pub on? : (fs : List ℕ) (x : ℕ) → Dec (On fs x)
on? fs x = go (ℕ_discrete (get_or fs x 0) 0)
  where
    go : Dec (get_or fs x 0 ≡ 0) → Dec (On fs x)
    go (yes e) = no (λ h. h.nonzero e)
    go (no n) = yes (record { nonzero = n })

unfoldable pub codes_in : List ℕ → ℕ → List ℕ
codes_in fs l = keep (λ c. On fs (l * 64 + c)) (λ c. on? fs (l * 64 + c)) (range 0 64)

code_on : (fs : List ℕ) (l d : ℕ) → In d (codes_in fs l) → On fs (l * 64 + d) × (d < 64)
unfolding codes_in
code_on fs l d m =
    let r = keep_only (λ c. On fs (l * 64 + c)) (λ c. on? fs (l * 64 + c)) (range 0 64) d m in
    (r.0, (range_in 0 64 d r.1).1)

on_code : (fs : List ℕ) (l d : ℕ) → d < 64 → On fs (l * 64 + d) → In d (codes_in fs l)
unfolding codes_in
on_code fs l d low on = keep_every (λ c. On fs (l * 64 + c)) (λ c. on? fs (l * 64 + c)) (in_range 0 64 d (omega arith) (omega arith)) on

-- ---- lines in memory
abbrev pub line_in : List ℕ → List ℕ → ℕ → KernelLine
line_in kernels fs l = K (state_at kernels l) (item_at kernels l) (dot_at kernels l) (codes_in fs l)

unfoldable pub lines_in : List ℕ → List ℕ → ℕ → ℕ → List KernelLine
lines_in kernels fs a zero = []
lines_in kernels fs a (suc n) = line_in kernels fs a ∷ lines_in kernels fs (suc a) n

lines_long : (kernels fs : List ℕ) (a n : ℕ) → length (lines_in kernels fs a n) ≡ n
unfolding lines_in
lines_long kernels fs a zero = refl
lines_long kernels fs a (suc n) = ap suc (lines_long kernels fs (suc a) n)

line_is : (kernels fs : List ℕ) (a n l : ℕ) {x : KernelLine} → at (lines_in kernels fs a n) l ≡ some x → x ≡ line_in kernels fs (a + l)
unfolding lines_in
line_is kernels fs a zero l e = clash cc
line_is kernels fs a (suc n) zero {x} e =
    let z : line_in kernels fs a ≡ x = cc in
    let y : a ≡ a + 0 = omega arith in
    sym z ∙ ap (line_in kernels fs) y
line_is kernels fs a (suc n) (suc l) e =
    let y : suc a + l ≡ a + suc l = omega arith in
    line_is kernels fs (suc a) n l e ∙ ap (line_in kernels fs) y

-- ---- the tables
module _ (g : Grammar) (L : Limits g) where
  pub entries_fit : Fits g (entry_table g)
  entries_fit = record {
    form = record {
      one_entry = one_entry g (entry_table g) refl;
      one_action = λ q X x y m. elim m [ ];
      some_code = λ q i k σ m. elim m [ ];
      item_declared = λ q i k σ m. elim m [ ];
      kernel_state = λ q i k σ m. elim m [ ];
      entry_state = λ k s γ e. let r = entry_line g (entry_table g) refl k e in (omega (arith, r.0, r.1), omega (arith, r.0, r.2));
      action_state = λ q X x m. elim m [ ];
      shift_kind = λ q a s m. elim m [ ];
      goto_kind = λ q X s m. elim m [ ];
    };
    few_states = omega (arith, L.few_entries);
    few_entries = omega (arith, L.few_entries, lines_length 1 (entry_strings g));
    few_kernels = omega arith;
    string_some = λ k s γ e. wanted_filled g L.formed (entry_table g) refl (entry_line g (entry_table g) refl k e).3;
    string_short = λ k s γ e. wanted_short g L.formed (entry_table g) refl (entry_line g (entry_table g) refl k e).3;
    string_declared = λ k s γ e X m. wanted_declared g (entry_table g) (declared g L.formed) γ (entry_line g (entry_table g) refl k e).3 X m;
    dot_within = λ q i k σ m. elim m [ ];
    code_declared = λ q i k d σ m. elim m [ ];
    next_declared = λ q X s x m. elim m [ ];
    rule_declared = λ q X i m. elim m [ ];
    announce_kind = λ q X i m. elim m [ ];
    pop_kind = λ q X n m. elim m [ ];
  }

module _ (g : Grammar) {items entries uses kernels kinds values gotos : List ℕ} {rules strings lines all codes : ℕ}
    (S : StatesHeld g items entries uses kernels kinds values gotos rules strings lines all codes) where
  -- the items and entries
  pub held_entries : HoldsTable g (entry_table g) items entries [] [] [] [] [] rules strings 0
  held_entries = record {
    formed = S.limits.formed;
    fits = entries_fit g S.limits;
    holds_items = S.holds_items;
    holds_entries = S.holds_entries;
    holds_kernels = record {
      line_state = λ l q i k e. clash cc;
      line_item = λ l q i k e. clash cc;
      line_dot = λ l q i k e. clash cc;
      code_on = λ l q i k d e. clash cc;
      on_code = λ l q i k d e. clash cc;
    };
    holds_actions = record { kind_is = λ q c a b. refl; value_is = λ q c a b. refl; goto_is = λ q b a c. refl };
    rule_count = S.rule_count;
    entry_count = lines_length 1 (entry_strings g) ∙ S.entry_count;
    line_count = refl;
  }

  -- the kernel lines, with the codes that are flagged
  abbrev pub flag_table : List ℕ → Table
  flag_table fs = record { states = length (states g); entries = entry_lines 1 (entry_strings g); kernels = lines_in kernels fs 0 lines; actions = [] }

  module _ (fs : List ℕ) where
    at_line : (l : ℕ) {x : KernelLine} → at (lines_in kernels fs 0 lines) l ≡ some x → x ≡ line_in kernels fs l
    at_line l e = line_is kernels fs 0 lines l e ∙ ap (line_in kernels fs) (let z : 0 + l ≡ l = omega arith in z)

    code_in : (l q i k d : ℕ) {σ : List ℕ} → at (lines_in kernels fs 0 lines) l ≡ some (K q i k σ) → In d σ → On fs (l * 64 + d)
    code_in l q i k d {σ} e m = let z = at_line l e in let y : σ ≡ codes_in fs l = cc in (code_on fs l d (subst (In d) y m)).0

    in_code : (l q i k d : ℕ) {σ : List ℕ} → at (lines_in kernels fs 0 lines) l ≡ some (K q i k σ) → d < 64 → On fs (l * 64 + d) → In d σ
    in_code l q i k d {σ} e low on = let z = at_line l e in let y : codes_in fs l ≡ σ = cc in subst (In d) y (on_code fs l d low on)

    holds_flags : HoldsKernels kernels fs (flag_table fs)
    holds_flags = record {
      line_state = λ l q i k e. let z = at_line l e in let y : state_at kernels l ≡ q = cc in y;
      line_item = λ l q i k e. let z = at_line l e in let y : item_at kernels l ≡ i = cc in y;
      line_dot = λ l q i k e. let z = at_line l e in let y : dot_at kernels l ≡ k = cc in y;
      code_on = code_in;
      on_code = in_code;
    }

    entry_row : (k s : ℕ) {γ : List ℕ} → entry_at (flag_table fs) k ≡ some (E s γ) → entry_at (entry_table g) k ≡ some (E s γ)
    entry_row zero s e = e
    entry_row (suc k) s e = e

    -- a line of the table
    pub record Flagged (q i k : ℕ) (σ : List ℕ) : Type 0 where
      pub line : ℕ
      pub within : line < lines
      pub state : state_at kernels line ≡ q
      pub item : item_at kernels line ≡ i
      pub dot : dot_at kernels line ≡ k
      pub code : (d : ℕ) → In d σ → On fs (line * 64 + d) × (d < 64)

    pub flagged : {q i k : ℕ} {σ : List ℕ} → KernelAt g (flag_table fs) q i k σ → Flagged q i k σ
    flagged {q} {i} {k} {σ} m =
        let r = in_at m in
        let z = at_line r.0 r.1 in
        let y : σ ≡ codes_in fs r.0 = cc in
        record {
          line = r.0;
          within = omega (arith, at_range (lines_in kernels fs 0 lines) r.0 r.1, lines_long kernels fs 0 lines);
          state = cc;
          item = cc;
          dot = cc;
          code = λ d n. code_on fs r.0 d (subst (In d) y n);
        }

    -- where every flag is that of a code
    module _ {Look : ℕ → ℕ → ℕ → ℕ → Type 0} (few : codes ≤ 64) (sound : (y : ℕ) → On fs y → FlagAsked Look kernels lines codes y) where
      declared_item : {q i k : ℕ} {σ : List ℕ} → Flagged q i k σ → DeclaredItem g (flag_table fs) i
      declared_item h =
          let l = S.line_of h.line h.within in
          subst (DeclaredItem g (flag_table fs)) (sym l.item ∙ h.item) (kernel_known g S.limits (flag_table fs) refl (state_at kernels h.line) l.number l.low l.high l.stands)

      pub flags_held : InMemory items kernels fs rules lines codes g (flag_table fs)
      flags_held = record {
        holds_items = record { rule_row = S.holds_items.rule_row; entry_row = λ k s e. S.holds_items.entry_row k s (entry_row k s e) };
        holds_kernels = holds_flags;
        rule_count = S.rule_count;
        line_count = lines_long kernels fs 0 lines;
        left_kind = λ i e. (S.limits.formed.formed i e).left_declared.0;
        item_declared = λ q i k σ m. declared_item (flagged m);
        code_low = λ q i k d σ m n. let h = flagged m in let c = h.code d n in (flag_line h.line d few c.1 (sound (h.line * 64 + d) c.0)).0;
      }
