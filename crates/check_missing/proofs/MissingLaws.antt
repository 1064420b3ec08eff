-- What a search for a lookahead answers.
use Prim.Native.Nat.{ℕ, zero, suc, ◌+◌, ◌*◌, ◌≤◌, ◌<◌}
use native.Mathlib.Omega.{arith}
use mathlib.Core.Path.{◌≡◌, refl, sym, ap, subst, subst₂, ◌∙◌}
use mathlib.Core.List.{List}
use mathlib.Core.Option.{some}
use lib.ListN.{get_or, replicate}
use Rattle.language.specs.Grammar.{Grammar}
use Rattle.language.specs.Sentence.{In}
use Rattle.leftcorner.specs.Table.{EntryLine, E, Table, entry_at}
use Rattle.leftcorner.specs.Construction.{entry_item, EntryAt, KernelAt, LookaheadsMeet}
use Rattle.fixpoint.specs.Flags.{On}
use Rattle.fixpoint.proofs.PassLaws.{from_more}
use Rattle.memory.specs.Memory.{state_at, item_at, dot_at}
use Rattle.memory.specs.Held.{HoldsTable}
use Rattle.memory.proofs.RangeLaws.{entry_at_lem}
use Rattle.kernel_lines.specs.Lines.{IsLine}
use Rattle.kernel_lines.proofs.HeldLaws.{at_in}
use Rattle.analysis.specs.FirstBy.{FirstBy}
use Rattle.analysis.specs.Adds.{Adds}
use Rattle.closure.proofs.ItemLaws.{line_at}
use Rattle.inclusions.specs.Included.{Includes, FlagAsked}
use Rattle.inclusions.proofs.FlagLaws.{flag_line}
use Rattle.check_lookaheads.specs.Memory.{StateCovers, GoalAsks}
use Rattle.check_lookaheads.specs.Sources.{GoalMeets, LookaheadsFrom, included_in, LookaheadsBelow, lookaheads_below}
use Rattle.check_lookaheads.proofs.MeetLaws.{new_only, from_covers, goal_from}
use Rattle.check_missing.specs.declared.MissingCode.{MissingCode}
use Rattle.check_missing.specs.Missing.{MissingLine, MissingAt, MissingIn, AskedFrom, by_goal, by_state, MissesCode, MissingIs}

not_code : {A : Type 0} {l c p : ℕ} → MissingCode.Code l c p ≡ MissingCode.Nothing → A
not_code e = let z : ◌≡◌ {A = ℕ} 0 1 = cc in absurd (omega (arith, z))

module _ {kernels lookaheads asked : List ℕ} {lines codes q source : ℕ} where
  pub missing_code : {l c : ℕ} → l < lines → state_at kernels l ≡ q → c < codes → On asked (l * 64 + c) → (On lookaheads (l * 64 + c) → ⊥)
      → MissingIn kernels lookaheads asked lines codes q source (MissingCode.Code l c source)
  missing_code {l} {c} low e small on off = record { code = λ m d p z. same m d p z; none = λ z. not_code z }
    where
      here : MissingLine kernels lookaheads lines codes q l c
      here = record { low = low; state = e; code_low = small; off = unset (get_or lookaheads (l * 64 + c) 0) refl }
        where
          unset : (v : ℕ) → get_or lookaheads (l * 64 + c) 0 ≡ v → get_or lookaheads (l * 64 + c) 0 ≡ 0
          unset zero f = f
          unset (suc v) f = absurd (off (record { nonzero = λ z. omega (arith, f, z) }))

      same : (m d p : ℕ) → MissingCode.Code l c source ≡ MissingCode.Code m d p → (p ≡ source) × MissingLine kernels lookaheads lines codes q m d × On asked (m * 64 + d)
      same m d p z =
          let a : l ≡ m = cc in
          let b : c ≡ d = cc in
          let s : p ≡ source = cc in
          (s, subst₂ (MissingLine kernels lookaheads lines codes q) a b here, subst₂ (λ (x y : ℕ). On asked (x * 64 + y)) a b on)

-- ---- what is named
pub missing_at : {kernels lookaheads asked : List ℕ} {lines few q source many : ℕ} → few ≤ many → (r : MissingCode) → MissingIn kernels lookaheads asked lines few q source r
    → MissingAt kernels lookaheads lines many q r
missing_at u (MissingCode.Code l c p) h = let w = (h.code l c p refl).1 in record { low = w.low; state = w.state; code_low = omega (arith, w.code_low, u); off = w.off }
missing_at u MissingCode.Nothing h = tt

module _ {g : Grammar} {t : Table} {F : List ℕ → ℕ → ℕ → Type 0} where
  -- a missing named is a missing, whatever is asked besides
  pub still : {A B : Type 0} {q l c p : ℕ} {r : MissingCode} → MissingIs g t F A q r → r ≡ MissingCode.Code l c p → MissingIs g t F B q r
  still {A} {B} {q} h e = subst (MissingIs g t F B q) (sym e) (record { is = (subst (MissingIs g t F A q) e h).is })

  pub fine : {Fine : Type 0} {q : ℕ} {r : MissingCode} → MissingIs g t F Fine q r → r ≡ MissingCode.Nothing → Fine
  fine {Fine} {q} h e = (subst (MissingIs g t F Fine q) e h).is

  -- and refutes the construction
  asked_in : {p q i k c : ℕ} {σ : List ℕ} → LookaheadsMeet g t F q → AskedFrom g t F p q i k c → KernelAt g t q i k σ → In c σ
  asked_in {σ = σ} m (by_goal {γ = γ} e) ker = m.of_goal γ σ e ker
  asked_in {p = p} {q = q} {σ = σ} m (by_state above inc) ker = included_in g t F ((lookaheads_below g t F (p + 1) q m).from p above (omega arith)) inc σ ker

  pub refutes : {q l c p : ℕ} → MissesCode g t F q l c p → LookaheadsMeet g t F q → ⊥
  refutes {l = l} x m = x.lacks (asked_in m x.asked (at_in t.kernels l x.line))

module _ (g : Grammar) (t : Table) {items entries kernels lookaheads kinds values gotos : List ℕ} {rules strings lines : ℕ}
    (H : HoldsTable g t items entries kernels lookaheads kinds values gotos rules strings lines) where
  lacks_code : {F : List ℕ → ℕ → ℕ → Type 0} {codes q l c p : ℕ} → MissingLine kernels lookaheads lines codes q l c → AskedFrom g t F p q (item_at kernels l) (dot_at kernels l) c
      → MissesCode g t F q l c p
  lacks_code {q = q} {l = l} {c = c} w asks =
      let r = line_at g t H.holds_kernels H.line_count (record { within = w.low; state = w.state; item = refl; dot = refl }) in
      record {
        item = item_at kernels l;
        dot = dot_at kernels l;
        codes = r.0;
        line = r.2;
        lacks = λ m. (H.holds_kernels.code_on l q (item_at kernels l) (dot_at kernels l) c r.2 m).nonzero w.off;
        asked = asks;
      }

  missing_is : {F : List ℕ → ℕ → ℕ → Type 0} {Fine : Type 0} {asked : List ℕ} {codes q source : ℕ} (r : MissingCode) → MissingIn kernels lookaheads asked lines codes q source r
      → ((l c : ℕ) → MissingLine kernels lookaheads lines codes q l c → On asked (l * 64 + c) → AskedFrom g t F source q (item_at kernels l) (dot_at kernels l) c)
      → (StateCovers kernels asked lookaheads lines codes q → Fine) → MissingIs g t F Fine q r
  missing_is {F} {q = q} (MissingCode.Code l c p) h asks none =
      let w = h.code l c p refl in
      record { is = subst (MissesCode g t F q l c) (sym w.0) (lacks_code w.1 (asks l c w.1 w.2)) }
  missing_is MissingCode.Nothing h asks none = record { is = none (h.none refl) }

  -- the items of p ask it
  module _ {codes : ℕ} (nul fst : List ℕ) (count : codes ≡ suc g.terminals) {none asked : List ℕ} {p : ℕ} (above : 1 ≤ p) (n : ℕ) (is_none : none ≡ replicate n 0)
      (A : Adds (FlagAsked (Includes g t (FirstBy codes nul fst) p) kernels lines codes) none asked) where
    few : codes ≤ 64
    few = omega (arith, count, H.formed.few_terminals)

    pub state_missing : {q : ℕ} (r : MissingCode) → MissingIn kernels lookaheads asked lines codes q p r → MissingIs g t (FirstBy codes nul fst) (LookaheadsFrom g t (FirstBy codes nul fst) p q) q r
    state_missing {q} r h = missing_is r h asks (λ covers. from_covers g t H nul fst count A.every covers)
      where
        asks : (l c : ℕ) → MissingLine kernels lookaheads lines codes q l c → On asked (l * 64 + c) → AskedFrom g t (FirstBy codes nul fst) p q (item_at kernels l) (dot_at kernels l) c
        asks l c w on =
            let f = flag_line l c few (omega (arith, w.code_low, few)) (new_only n is_none A (l * 64 + c) on) in
            by_state above (subst (λ (x : ℕ). Includes g t (FirstBy codes nul fst) p x (item_at kernels l) (dot_at kernels l) c) w.state f.1)

  -- the goal's entry asks it
  module _ (some_entry : 1 ≤ strings) {none asked : List ℕ} (n : ℕ) (is_none : none ≡ replicate n 0) (A : Adds (GoalAsks kernels entries rules lines) none asked) where
    pub goal_missing : {F : List ℕ → ℕ → ℕ → Type 0} {q : ℕ} (r : MissingCode) → MissingIn kernels lookaheads asked lines 1 q 0 r → MissingIs g t F (GoalMeets g t q) q r
    goal_missing {F} {q} r h = missing_is r h asks (goal_from g t H A (omega arith) (omega arith) q)
      where
        go : (l c : ℕ) → MissingLine kernels lookaheads lines 1 q l c → GoalAsks kernels entries rules lines (l * 64 + c) → (x : EntryLine) × (entry_at t 1 ≡ some x)
            → AskedFrom g t F 0 q (item_at kernels l) (dot_at kernels l) c
        go l c w o (E u γ, f) =
            let z : o.line ≡ l = omega (arith, w.code_low, o.is) in
            let L : IsLine kernels lines (get_or entries 1 0) (rules + 1) 0 l = subst (IsLine kernels lines (get_or entries 1 0) (rules + 1) 0) z o.is_line in
            let here : EntryAt g t 1 q γ = f ∙ ap (λ (v : ℕ). some (E v γ)) (sym (H.holds_entries.state_is 1 u f) ∙ (sym L.state ∙ w.state)) in
            let item : entry_item g t 1 ≡ item_at kernels l = (let e : entry_item g t 1 ≡ rules + 1 = omega (arith, H.rule_count) in e) ∙ sym L.item in
            let ec : 0 ≡ c = omega (arith, w.code_low) in
            subst (AskedFrom g t F 0 q (item_at kernels l) (dot_at kernels l)) ec
            (subst₂ (λ (i k : ℕ). AskedFrom g t F 0 q i k 0) item (sym L.dot) (by_goal here))

        asks : (l c : ℕ) → MissingLine kernels lookaheads lines 1 q l c → On asked (l * 64 + c) → AskedFrom g t F 0 q (item_at kernels l) (dot_at kernels l) c
        asks l c w on = go l c w (new_only n is_none A (l * 64 + c) on) (entry_at_lem t H.entry_count 1 (omega arith) (omega (arith, some_entry)))

-- ---- state by state
module _ (g : Grammar) (t : Table) (F : List ℕ → ℕ → ℕ → Type 0) {q : ℕ} where
  pub below_more : {n : ℕ} → LookaheadsBelow g t F n q → LookaheadsFrom g t F n q → LookaheadsBelow g t F (n + 1) q
  below_more {n} L here = record { from = from_more (λ (p : ℕ). LookaheadsFrom g t F p q) 1 n L.from here }
