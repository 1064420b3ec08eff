-- The builder's reply: each refusal exactly where document 01 says, and a book that it writes is accepted.
use Prim.Native.Nat.{ℕ, zero, suc, ◌-◌, ◌≤◌, ◌<◌}
use native.Mathlib.Omega.{arith}
use native.Mathlib.Decide.{dec_le}
use mathlib.Core.Path.{◌≡◌, refl, ap, subst, ◌∙◌}
use mathlib.Core.Logic.{◌⊎◌}
use mathlib.Core.Bool.{Bool, true, false, cond}
use mathlib.Core.List.{List, ◌++◌}
use mathlib.Core.Option.{Option, some, none}
use borrow.Author.Tests.{ltb-true, ltb-false, lt-ltb, le-ltb}
use lib.Dec.{ltb}
use lib.ListN.{length, replicate}
use Rattle.language.specs.Grammar.{Grammar, IsNonterminal}
use Rattle.language.specs.Sentence.{In, Reachable}
use Rattle.language.proofs.Strings.{AllDeclared}
use Rattle.language.specs.WellFormed as grammar
use Rattle.leftcorner.specs.Table.{Action, Table}
use Rattle.leftcorner.specs.Construction.{Asked, to_move, to_announce, to_pop, CellsAgree, MeetsWith, moved}
use Rattle.leftcorner.proofs.Closure.{has_of}
use Rattle.leftcorner.proofs.ReadOff.{clash}
use Rattle.reply.specs.declared.Kind.{Kind}
use Rattle.reply.specs.declared.Kind.TheVariants.{LimitExceeded, Conflict, BufferTooSmall}
use Rattle.reply.specs.declared.Reply.{Reply}
use Rattle.reply.specs.declared.Reply.TheVariants.{Accepted}
use Rattle.reply.specs.Reply.{number_of, place_of}
use Rattle.check_verdict.proofs.CellsDecided.{agree?}
use Rattle.check_verdict.specs.Verdict.{if_fails, lowest, refused, first_of}
use Rattle.check_verdict.proofs.VerdictLaws.{none_fails, lowest-none, lowest-some}
use Rattle.build_states.specs.Strings.{entry_strings}
use Rattle.build_states.specs.States.{total, states}
use Rattle.build_states.proofs.Limits.{Limits}
use Rattle.build_book.proofs.LineLaws.{item_table, has_state}
use Rattle.build_book.proofs.BuiltForm.{full_table}
use Rattle.build_book.proofs.MeetsBuilt.{meets_built}
use Rattle.build_book.proofs.Conflicts.{TwoActions, two_actions}
use Rattle.build_book.specs.Text.{table_text}
use Rattle.build_book.specs.Book.{book_text, after_conflicts, after_limits, build_reply, written, build_slice}

-- what is the lowest that fails
lowest_fails : (Φ : ℕ → Type 0) (test : (q : ℕ) → Dec (Φ q)) (n q : ℕ) → lowest Φ test n ≡ some q → (q < n) × (Φ q → ⊥) × ((k : ℕ) → k < q → Φ k)
lowest_fails Φ test zero q e = clash cc
lowest_fails Φ test (suc n) q e = go (lowest Φ test n) refl (test n) (lowest_fails Φ test n q) e
  where
    go : (o : Option ℕ) → lowest Φ test n ≡ o → (d : Dec (Φ n)) → (lowest Φ test n ≡ some q → (q < n) × (Φ q → ⊥) × ((k : ℕ) → k < q → Φ k)) → if_fails Φ test n o d ≡ some q
        → (q < suc n) × (Φ q → ⊥) × ((k : ℕ) → k < q → Φ k)
    go (some p) u d rec h = let r = rec (u ∙ h) in (omega (arith, r.0), r.1, r.2)
    go none u (yes p) rec h = clash cc
    go none u (no f) rec h =
        let z : n ≡ q = cc in
        (omega (arith, z), subst (λ (m : ℕ). Φ m → ⊥) z f, λ k l. none_fails Φ test n u k (omega (arith, l, z)))

-- as many entries, states and kernel lines as a book may have
pub record Within (g : Grammar) : Type 0 where
  pub few_entries : length (entry_strings g) ≤ 127
  pub few_states : length (states g) ≤ 255
  pub few_lines : total (states g) ≤ 1023

pub limits : (g : Grammar) → grammar.WellFormed g → Within g → Limits g
limits g W w = record { formed = W; few_entries = w.few_entries; few_states = w.few_states; few_lines = w.few_lines }

module _ (g : Grammar) (F : List ℕ → ℕ → ℕ → Type 0) (F? : (β : List ℕ) (d c : ℕ) → Dec (F β d c)) (first-codes : List ℕ)
    (F-in : (β : List ℕ) (d c : ℕ) → F β d c → (c ≡ d) ⊎ In c first-codes) where
  abbrev t : Table
  t = item_table g F F? first-codes F-in

  abbrev text : List ℕ
  text = book_text g F F? first-codes F-in

  pub text_is : text ≡ table_text (full_table g F F? first-codes F-in)
  unfolding book_text
  text_is = refl

  abbrev reply : ℕ → Reply
  reply room = build_reply g F F? first-codes F-in room

  abbrev Agree : ℕ → Type 0
  Agree = CellsAgree g t F

  abbrev test : (q : ℕ) → Dec (Agree q)
  test = agree? g t F F? first-codes F-in

  abbrev late : ℕ → Reply
  late room = after_conflicts g F F? first-codes F-in room

  -- ---- the limits

  within_reply : (room : ℕ) → Within g → reply room ≡ after_limits g F F? first-codes F-in room
  unfolding build_reply
  within_reply room w = simp (le-ltb 127 (length (entry_strings g)) w.few_entries, le-ltb 255 (length (states g)) w.few_states, le-ltb 1023 (total (states g)) w.few_lines)

  -- the reply, by whether the limits are kept
  by_limits : (Φ : Reply → Type 0) (room : ℕ) → ((Within g → ⊥) → Φ (refused LimitExceeded 0)) → (Within g → Φ (after_limits g F F? first-codes F-in room)) → Φ (reply room)
  unfolding build_reply
  by_limits Φ room out into = go (ltb 127 (length (entry_strings g))) (ltb 255 (length (states g))) (ltb 1023 (total (states g))) refl refl refl
    where
      go : (x y z : Bool) → ltb 127 (length (entry_strings g)) ≡ x → ltb 255 (length (states g)) ≡ y → ltb 1023 (total (states g)) ≡ z
          → Φ (cond x (refused LimitExceeded 0) (cond y (refused LimitExceeded 0) (cond z (refused LimitExceeded 0) (after_limits g F F? first-codes F-in room))))
      go true y z a c d = out (λ w. omega (arith, w.few_entries, ltb-true 127 (length (entry_strings g)) a))
      go false true z a c d = out (λ w. omega (arith, w.few_states, ltb-true 255 (length (states g)) c))
      go false false true a c d = out (λ w. omega (arith, w.few_lines, ltb-true 1023 (total (states g)) d))
      go false false false a c d = into (record {
        few_entries = ltb-false 127 (length (entry_strings g)) a;
        few_states = ltb-false 255 (length (states g)) c;
        few_lines = ltb-false 1023 (total (states g)) d;
      })

  -- "2 for entries, states and kernel lines"
  pub refuses_many : (room : ℕ) → (Within g → ⊥) → reply room ≡ refused LimitExceeded 0
  refuses_many room f = by_limits (λ (r : Reply). r ≡ refused LimitExceeded 0) room (λ _. refl) (λ w. absurd (f w))

  -- ---- conflicts

  -- outside the states no cell is asked for
  asked_off : {q X : ℕ} {x : Action} → Asked g t F q X x → q ≤ length (states g)
  asked_off (to_move (moved h go)) = (has_state g F F? first-codes F-in h).1
  asked_off (to_announce i e h f) = (has_state g F F? first-codes F-in (has_of g t h)).1
  asked_off (to_pop k e h) = (has_state g F F? first-codes F-in (has_of g t h)).1

  everywhere : ((q : ℕ) → q < suc (length (states g)) → Agree q) → (q : ℕ) → Agree q
  everywhere on q = go (dec_le (suc q) (suc (length (states g))))
    where
      go : Dec (suc q ≤ suc (length (states g))) → Agree q
      go (yes l) = on q l
      go (no f) = record { one = λ X x y a c. absurd (let z = asked_off a in omega (arith, f, z)) }

  -- 9, at "state, lowest"
  pub refuses_conflict : (room q : ℕ) → Within g → q ≤ length (states g) → (Agree q → ⊥) → ((k : ℕ) → k < q → Agree k) → reply room ≡ refused Conflict q
  refuses_conflict room q w l f h =
      within_reply room w ∙ ap (λ (o : Option ℕ). first_of Conflict o (late room)) (lowest-some Agree test (suc (length (states g))) q (omega (arith, l)) f h)

  pub past_conflicts : (room : ℕ) → Within g → ((q : ℕ) → Agree q) → reply room ≡ late room
  past_conflicts room w h =
      within_reply room w ∙ ap (λ (o : Option ℕ). first_of Conflict o (late room)) (lowest-none Agree test (suc (length (states g))) (λ q l. h q))

  -- "then 2 for the book's bytes"
  pub refuses_long : (room : ℕ) → Within g → ((q : ℕ) → Agree q) → 65536 < length text → reply room ≡ refused LimitExceeded 0
  refuses_long room w h l = past_conflicts room w h ∙ simp (lt-ltb 65536 (length text) l)

  -- "then 11"
  pub refuses_short : (room : ℕ) → Within g → ((q : ℕ) → Agree q) → length text ≤ 65536 → room < length text → reply room ≡ refused BufferTooSmall 0
  refuses_short room w h l s = past_conflicts room w h ∙ simp (le-ltb 65536 (length text) l, lt-ltb room (length text) s)

  -- within the limits it refuses nothing else
  pub writes : (room : ℕ) → Within g → ((q : ℕ) → Agree q) → length text ≤ 65536 → length text ≤ room → reply room ≡ Accepted 0
  writes room w h l s = past_conflicts room w h ∙ simp (le-ltb 65536 (length text) l, le-ltb room (length text) s)

  -- ---- what a reply says

  pub record Writes (room : ℕ) : Type 0 where
    pub within : Within g
    pub agree : (q : ℕ) → Agree q
    pub fits : length text ≤ 65536
    pub room_enough : length text ≤ room

  late_accepted : (room : ℕ) → late room ≡ Accepted 0 → (length text ≤ 65536) × (length text ≤ room)
  late_accepted room = go (ltb 65536 (length text)) (ltb room (length text)) refl refl
    where
      go : (x y : Bool) → ltb 65536 (length text) ≡ x → ltb room (length text) ≡ y
          → cond x (refused LimitExceeded 0) (cond y (refused BufferTooSmall 0) (Accepted 0)) ≡ Accepted 0 → (length text ≤ 65536) × (length text ≤ room)
      go true y a c e = clash cc
      go false true a c e = clash cc
      go false false a c e = (ltb-false 65536 (length text) a, ltb-false room (length text) c)

  late_conflict : (room q : ℕ) → late room ≡ refused Conflict q → ⊥
  late_conflict room q = go (ltb 65536 (length text)) (ltb room (length text))
    where
      go : (x y : Bool) → cond x (refused LimitExceeded 0) (cond y (refused BufferTooSmall 0) (Accepted 0)) ≡ refused Conflict q → ⊥
      go true y e = let z : ◌≡◌ {A = ℕ} 2 9 = ap number_of e in omega (arith, z)
      go false true e = let z : ◌≡◌ {A = ℕ} 11 9 = ap number_of e in omega (arith, z)
      go false false e = let z : ◌≡◌ {A = ℕ} 0 9 = ap number_of e in omega (arith, z)

  pub accepted_writes : (room : ℕ) → reply room ≡ Accepted 0 → Writes room
  accepted_writes room = by_limits (λ (r : Reply). r ≡ Accepted 0 → Writes room) room (λ _ e. clash cc) (λ w. go w (lowest Agree test (suc (length (states g)))) refl)
    where
      go : Within g → (o : Option ℕ) → lowest Agree test (suc (length (states g))) ≡ o → first_of Conflict o (late room) ≡ Accepted 0 → Writes room
      go w (some q) h e = clash cc
      go w none h e =
          let f = late_accepted room e in
          record { within = w; agree = everywhere (none_fails Agree test (suc (length (states g))) h); fits = f.0; room_enough = f.1 }

  -- it refuses by 9 at a state of which the cells do not agree, and no lower one
  pub record Conflicts (q : ℕ) : Type 0 where
    pub within : Within g
    pub low : q ≤ length (states g)
    pub fails : Agree q → ⊥
    pub below : (k : ℕ) → k < q → Agree k

  pub conflict_is : (room q : ℕ) → reply room ≡ refused Conflict q → Conflicts q
  conflict_is room q = by_limits (λ (r : Reply). r ≡ refused Conflict q → Conflicts q) room
      (λ _ e. clash (let z : ◌≡◌ {A = ℕ} 2 9 = ap number_of e in omega (arith, z))) (λ w. go w (lowest Agree test (suc (length (states g)))) refl)
    where
      go : Within g → (o : Option ℕ) → lowest Agree test (suc (length (states g))) ≡ o → first_of Conflict o (late room) ≡ refused Conflict q → Conflicts q
      go w (some p) h e =
          let z : p ≡ q = ap place_of e in
          let r = lowest_fails Agree test (suc (length (states g))) q (h ∙ ap (λ (m : ℕ). some m) z) in
          record { within = w; low = omega (arith, r.0); fails = r.1; below = r.2 }
      go w none h e = absurd (late_conflict room q e)

  -- ---- the slice

  pub slice_written : (room : ℕ) → reply room ≡ Accepted 0 → build_slice g F F? first-codes F-in room ≡ text ++ replicate (room - length text) 0
  unfolding build_slice
  slice_written room e = ap (written g F F? first-codes F-in room) e

  pub slice_zeros : (room : ℕ) (kind : Kind) (place : ℕ) → reply room ≡ refused kind place → build_slice g F F? first-codes F-in room ≡ replicate room 0
  unfolding build_slice
  slice_zeros room kind place e = ap (written g F F? first-codes F-in room) e

  -- ---- a book that it writes meets the construction

  module _ (W : grammar.WellFormed g) (codes_low : (c : ℕ) → In c first-codes → c ≤ g.terminals) where
    pub book_meets : ((β : List ℕ) → AllDeclared g β → (d : ℕ) → (c : ℕ) × F β d c) → ((X : ℕ) → IsNonterminal g X → Reachable g X)
        → (room : ℕ) → reply room ≡ Accepted 0 → MeetsWith g (full_table g F F? first-codes F-in) F
    book_meets F-some reach room e =
        let w = accepted_writes room e in
        meets_built g F F? first-codes F-in (limits g W w.within) codes_low w.agree F-some reach

    -- a state of which it refuses has two actions for one cell
    pub conflict_actions : (room q : ℕ) → reply room ≡ refused Conflict q → TwoActions g F F? first-codes F-in q
    conflict_actions room q e = let c = conflict_is room q e in two_actions g F F? first-codes F-in (limits g W c.within) codes_low q c.fails
