-- Passes until nothing is added.
use Prim.Native.Nat.{ℕ, ◌+◌, ◌*◌, ◌/◌, ◌≤◌, ◌<◌}
use mathlib.Core.Path.{◌≡◌, refl, sym, ap, subst, ◌∙◌}
use mathlib.Core.Logic.{◌⊎◌, inl, inr}
use mathlib.Core.List.{List}
use native.Mathlib.Omega.{arith}
use native.Mathlib.Decide.{ℕ_discrete}
use lib.ListN.{length, get_or, set, replicate, length-replicate, get_or-replicate}
use Rattle.language.specs.Grammar.{Grammar}
use Rattle.fixpoint.specs.Flags.{On, Off}
use Rattle.fixpoint.proofs.CountLaws.{on_set}
use Rattle.fixpoint.proofs.PassLaws.{all_off, set_on}
use Rattle.memory.specs.Memory.{state_at, item_at, dot_at}
use Rattle.analysis.specs.Adds.{Adds}
use Rattle.analysis.specs.FirstBy.{FirstBy}
use Rattle.inclusions.specs.Asks.{LinesAsk}
use Rattle.inclusions.specs.Included.{FlagAsked}
use Rattle.build_states.specs.Lookaheads.{Lookahead}
use Rattle.build_states.specs.Lookaheads as look
use Rattle.build_lookaheads.specs.StatesHeld.{StatesHeld, HoldsLookaheads}
use Rattle.build_lookaheads.specs.Passes.{SomeAsks, PassMade}
use Rattle.build_lookaheads.proofs.LookLaws.{Sound, Met, met_more, met_within, sound_asked, met_state, met_included, holds_all}

-- passes from the lookaheads fs₀ on: where a state is not flagged, all that its items ask is in `included`
pub record Passing (items entries uses kernels kinds values gotos nul fst : List ℕ) (rules strings lines all codes : ℕ) (fs₀ changed included fs : List ℕ) : Type 0 where
  pub long : length fs ≡ length fs₀
  pub noted_long : length changed ≡ 256
  pub included_long : length included ≡ 65536
  pub kept : (y : ℕ) → On fs₀ y → On fs y
  pub sound : (g : Grammar) → StatesHeld g items entries uses kernels kinds values gotos rules strings lines all codes → Sound g nul fst kernels lines codes fs₀
      → Sound g nul fst kernels lines codes fs × Sound g nul fst kernels lines codes included
  pub met : (g : Grammar) (S : StatesHeld g items entries uses kernels kinds values gotos rules strings lines all codes) → Sound g nul fst kernels lines codes fs₀
      → (p : ℕ) → 1 ≤ p → p ≤ all → Off changed p → Met g S nul fst fs included p

module _ {items entries uses kernels kinds values gotos nul fst : List ℕ} {rules strings lines all codes : ℕ} where
  pub passing_start : (fs : List ℕ) {changed included : List ℕ} → changed ≡ replicate 256 1 → included ≡ replicate 65536 0 → all ≤ 255
      → Passing items entries uses kernels kinds values gotos nul fst rules strings lines all codes fs changed included fs
  passing_start fs {changed} {included} ec eg few = record {
    long = refl;
    noted_long = ap length ec ∙ length-replicate {A = ℕ} 256 1;
    included_long = ap length eg ∙ length-replicate {A = ℕ} 65536 0;
    kept = λ y on. on;
    sound = λ g S s. (s, record { flag = λ y on. all_off 65536 eg on });
    met = λ g S s p low high off. absurd (not_off p high off);
  }
    where
      not_off : (p : ℕ) → p ≤ all → Off changed p → ⊥
      not_off p high off =
          let z : get_or {A = ℕ} (replicate 256 1) p 0 ≡ 0 = subst (λ (l : List ℕ). get_or l p 0 ≡ 0) ec off in
          omega (arith, z, get_or-replicate {A = ℕ} 256 p 1 0 (omega (arith, high, few)))

  module _ {fs₀ changed changed' included included' fs fs' : List ℕ} {added : ℕ} (h : Passing items entries uses kernels kinds values gotos nul fst rules strings lines all codes fs₀ changed included fs)
      (few : codes ≤ 64) (m : PassMade items kernels kinds values gotos entries uses nul fst rules lines codes all changed changed' included included' fs fs' added) where
    sound_included : (g : Grammar) → StatesHeld g items entries uses kernels kinds values gotos rules strings lines all codes → Sound g nul fst kernels lines codes fs₀
        → Sound g nul fst kernels lines codes included'
    sound_included g S s = record { flag = λ y on. go y (m.asked.only y on) }
      where
        go : (y : ℕ) → On included y ⊎ SomeAsks items kernels fs kinds values gotos entries uses nul fst rules lines codes all y
            → FlagAsked (Lookahead g (FirstBy codes nul fst)) kernels lines codes y
        go y (inl on) = (h.sound g S s).1.flag y on
        go y (inr a) = sound_asked g S nul fst fs few (h.sound g S s).0 a

    sound_flags : (g : Grammar) → StatesHeld g items entries uses kernels kinds values gotos rules strings lines all codes → Sound g nul fst kernels lines codes fs₀
        → Sound g nul fst kernels lines codes fs'
    sound_flags g S s = record { flag = λ y on. go y (m.merged.only y on) }
      where
        go : (y : ℕ) → On fs y ⊎ On included' y → FlagAsked (Lookahead g (FirstBy codes nul fst)) kernels lines codes y
        go y (inl on) = (h.sound g S s).0.flag y on
        go y (inr on) = (sound_included g S s).flag y on

    -- after the states were asked, whether they were flagged or not
    met_all : (g : Grammar) (S : StatesHeld g items entries uses kernels kinds values gotos rules strings lines all codes) → Sound g nul fst kernels lines codes fs₀
        → (p : ℕ) → 1 ≤ p → p ≤ all → Met g S nul fst fs included' p
    met_all g S s p low high = go (ℕ_discrete (get_or changed p 0) 0)
      where
        go : Dec (get_or changed p 0 ≡ 0) → Met g S nul fst fs included' p
        go (yes e) = met_more g S nul fst (h.met g S s p low high e) m.asked.kept
        go (no f) = met_state g S nul fst fs few (h.sound g S s).0 (m.asked.met p low (omega arith) (set_on f))

    pub passing_more : Passing items entries uses kernels kinds values gotos nul fst rules strings lines all codes fs₀ changed' included' fs'
    passing_more = record {
      long = m.merged.long ∙ h.long;
      noted_long = m.noted_long ∙ h.noted_long;
      included_long = m.asked.long ∙ h.included_long;
      kept = λ y on. m.merged.kept y (h.kept y on);
      sound = λ g S s. (sound_flags g S s, sound_included g S s);
      met = λ g S s p low high off. met_included g S nul fst fs few (h.sound g S s).0 (met_all g S s p low high) (λ l c u e v on. same l c e v off (m.merged.noted (l * 64 + c) on));
    }
      where
        same : {p : ℕ} (l c : ℕ) → state_at kernels l ≡ p → c < 64 → Off changed' p → On fs (l * 64 + c) ⊎ On changed' (state_at kernels ((l * 64 + c) / 64)) → On fs (l * 64 + c)
        same l c e v off (inl on) = on
        same l c e v off (inr on) =
            let z : (l * 64 + c) / 64 ≡ l = omega (arith, v) in
            absurd ((subst (λ (k : ℕ). On changed' (state_at kernels k)) z on).nonzero (subst (Off changed') (sym e) off))

    -- where code 0 of the goal's entry is the first lookahead, and this pass added none
    module _ {row none : List ℕ} (n : ℕ) (is_row : row ≡ set (replicate 64 0) 0 1) (is_none : none ≡ replicate n 0) (a : Adds (LinesAsk kernels row lines 1 1 (rules + 1) 0 0) none fs₀)
        (z : added ≡ 0) (g : Grammar) (S : StatesHeld g items entries uses kernels kinds values gotos rules strings lines all codes) where
      zero_on : On row (0 + 0)
      zero_on = subst (λ (l : List ℕ). On l 0) (sym is_row) (on_set (replicate 64 0) 0 (omega (arith, length-replicate {A = ℕ} 64 0)))

      at_goal : (l c : ℕ) → state_at kernels l ≡ 1 → item_at kernels l ≡ rules + 1 → dot_at kernels l ≡ 0 → c ≡ 0
          → Lookahead g (FirstBy codes nul fst) (state_at kernels l) (item_at kernels l) (dot_at kernels l) c
      at_goal l c es ei ed ec =
          let e : length g.rules + 1 ≡ item_at kernels l = omega (arith, S.rule_count, ei) in
          subst (λ (x : ℕ). Lookahead g (FirstBy codes nul fst) (state_at kernels l) (item_at kernels l) (dot_at kernels l) x) (sym ec)
          (subst (λ (x : ℕ). Lookahead g (FirstBy codes nul fst) x (item_at kernels l) (dot_at kernels l) 0) (sym es)
          (subst (λ (x : ℕ). Lookahead g (FirstBy codes nul fst) 1 x (dot_at kernels l) 0) e (subst (λ (x : ℕ). Lookahead g (FirstBy codes nul fst) 1 (length g.rules + 1) x 0) (sym ed) look.of_goal)))

      first : (y : ℕ) → On none y ⊎ LinesAsk kernels row lines 1 1 (rules + 1) 0 0 y → FlagAsked (Lookahead g (FirstBy codes nul fst)) kernels lines codes y
      first y (inl on) = all_off n is_none on
      first y (inr o) =
          let w = o.holds.row in
          record {
            line = o.line;
            within = o.within;
            code = w.code;
            low = omega (arith, w.low, S.code_count);
            is = w.is;
            asked = at_goal o.line w.code o.state o.holds.item o.holds.dot (omega (arith, w.low));
          }

      start : Sound g nul fst kernels lines codes fs₀
      start = record { flag = λ y on. first y (a.only y on) }

      pub found_all : HoldsLookaheads (Lookahead g (FirstBy codes nul fst)) kernels fs' lines
      found_all = holds_all g S nul fst fs' few (sound_flags g S start)
          (λ l w. passing_more.kept (l * 64 + 0) (a.every (l * 64 + 0) (record {
            line = l;
            within = w.within;
            state = w.state;
            holds = record { item = w.item; dot = w.dot; row = record { code = 0; low = omega arith; on = zero_on; is = refl } };
          })))
          (λ p low high. subst (λ (l : List ℕ). Met g S nul fst l fs' p) (sym (m.merged.still z))
          (met_within g S nul fst few (met_all g S start p low high) (sound_included g S start) (λ y u on. m.merged.every y u on)))
