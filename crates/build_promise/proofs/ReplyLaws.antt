-- Each reply of the builder to a grammar exactly where document 01 says. Document 01, 'Replies': "The builder gives 2 for entries,
-- states and kernel lines, then 9, then 2 for the book's bytes, then 11."
use Prim.Native.Nat.{ℕ, zero, suc, ◌≤◌, ◌<◌}
use native.Mathlib.Omega.{arith}
use native.Mathlib.Decide.{dec_le}
use mathlib.Core.Path.{◌≡◌, refl, sym, ap, subst, ◌∙◌}
use mathlib.Core.Logic.{◌⊎◌, inl, inr}
use mathlib.Core.Bool.{Bool, true, false, cond}
use mathlib.Core.List.{List}
use borrow.Author.Tests.{ltb-true, ltb-false, lt-ltb, le-ltb}
use lib.Dec.{ltb}
use lib.ListN.{length}
use Rattle.language.specs.Grammar.{Grammar}
use Rattle.language.specs.WellFormed as grammar
use Rattle.leftcorner.specs.Construction.{CellsAgree}
use Rattle.std.specs.Prelude.{◌↔◌}
use Rattle.reply.specs.Reply.{number_of, place_of}
use Rattle.reply.specs.declared.Kind.TheVariants.{LimitExceeded, Conflict, BufferTooSmall}
use Rattle.reply.specs.declared.Reply.{Reply}
use Rattle.reply.specs.declared.Reply.TheVariants.{Accepted}
use Rattle.check_verdict.proofs.Tests.{map_dec}
use Rattle.check_verdict.specs.Verdict.{refused}
use Rattle.analysis.specs.ByRules.{FirstByRules}
use Rattle.analysis.proofs.Decided.{first?}
use Rattle.build_states.specs.States.{states}
use Rattle.build_book.proofs.LineLaws.{item_table}
use Rattle.build_book.proofs.BuiltForm.{asked_place}
use Rattle.build_book.proofs.Conflicts.{TwoActions, two_actions?, agree_where, no_agreement}
use Rattle.build_book.specs.Text.{table_text}
use Rattle.build_book.specs.Book.{text_reply}
use Rattle.build_book.proofs.BookLaws.{Within, limits}
use Rattle.build_states.specs.Lookaheads.{terminal_codes}
use Rattle.build_states.proofs.CodeLaws.{first_in, codes_low}
use Rattle.build_book.specs.Builder.{builder_table, builder_reply}
use Rattle.build_book.proofs.BuilderLaws.{table_text_lem, replies_many, replies_conflict, replies_text}
use Rattle.build_promise.specs.Kernels.{TooMany, WithinLimits}
use Rattle.build_promise.proofs.ManyLaws.{within?, too_many, kept, not_many}

differ : {A : Type 0} {r s : Reply} → r ≡ s → (number_of r ≡ number_of s → ⊥) → A
differ e f = absurd (f (ap number_of e))

-- the reply to a text, by its length
text_replied : (text : List ℕ) (room : ℕ) (Φ : Reply → Type 0) → (65536 < length text → Φ (refused LimitExceeded 0))
    → (length text ≤ 65536 → room < length text → Φ (refused BufferTooSmall 0)) → (length text ≤ 65536 → length text ≤ room → Φ (Accepted 0)) → Φ (text_reply text room)
text_replied text room Φ long short fits = go (ltb 65536 (length text)) (ltb room (length text)) refl refl
  where
    go : (x y : Bool) → ltb 65536 (length text) ≡ x → ltb room (length text) ≡ y → Φ (cond x (refused LimitExceeded 0) (cond y (refused BufferTooSmall 0) (Accepted 0)))
    go true y a c = long (ltb-true 65536 (length text) a)
    go false true a c = short (ltb-false 65536 (length text) a) (ltb-true room (length text) c)
    go false false a c = fits (ltb-false 65536 (length text) a) (ltb-false room (length text) c)

-- Clash q: a cell of state q would hold two different actions
module _ (g : Grammar) (W : grammar.WellFormed g) (Clash : ℕ → Type 0)
    (same : (q : ℕ) → TwoActions g (FirstByRules g) (first? g) (terminal_codes g) (first_in g) q ↔ Clash q) where
  abbrev text : List ℕ
  text = table_text (builder_table g)

  abbrev None : Type 0
  None = (q : ℕ) → Clash q → ⊥

  abbrev Lowest : ℕ → Type 0
  Lowest q = Clash q × ((p : ℕ) → p < q → Clash p → ⊥)

  clash? : Within g → (q : ℕ) → Dec (Clash q)
  clash? w q = map_dec (same q).0 (same q).1 (two_actions? g (FirstByRules g) (first? g) (terminal_codes g) (first_in g) (limits g W w) (codes_low g) q)

  clash_state : Within g → (q : ℕ) → Clash q → q ≤ length (states g)
  clash_state w q c = (asked_place g (FirstByRules g) (first? g) (terminal_codes g) (first_in g) (limits g W w) (codes_low g) ((same q).1 c).asked_one).1

  agree : (q : ℕ) → (Clash q → ⊥) → CellsAgree g (item_table g (FirstByRules g) (first? g) (terminal_codes g) (first_in g)) (FirstByRules g) q
  agree q f = agree_where g (FirstByRules g) (first? g) (terminal_codes g) (first_in g) q (λ c. f ((same q).0 c))

  -- ---- the lowest clash

  lowest_below : Within g → (n : ℕ) → ((q : ℕ) × Lowest q) ⊎ ((q : ℕ) → q < n → Clash q → ⊥)
  lowest_below w zero = inr (λ q l. absurd (omega (arith, l)))
  lowest_below w (suc n) = go (lowest_below w n) (clash? w n)
    where
      last : ((q : ℕ) → q < n → Clash q → ⊥) → (Clash n → ⊥) → (q : ℕ) → q < suc n → Dec (suc q ≤ n) → Clash q → ⊥
      last f h q l (yes m) c = f q m c
      last f h q l (no m) c = let z : q ≡ n = omega (arith, l, m) in h (subst Clash z c)

      go : ((q : ℕ) × Lowest q) ⊎ ((q : ℕ) → q < n → Clash q → ⊥) → Dec (Clash n) → ((q : ℕ) × Lowest q) ⊎ ((q : ℕ) → q < suc n → Clash q → ⊥)
      go (inl h) d = inl h
      go (inr f) (yes c) = inl (n, (c, f))
      go (inr f) (no h) = inr (λ q l. last f h q l (dec_le (suc q) n))

  -- ---- the reply, by cases

  conflict_replies : (room q : ℕ) → Within g → Lowest q → builder_reply g room ≡ refused Conflict q
  conflict_replies room q w c =
      replies_conflict g room q w (clash_state w q c.0)
      (no_agreement g (FirstByRules g) (first? g) (terminal_codes g) (first_in g) q ((same q).1 c.0)) (λ p l. agree p (c.1 p l))

  text_replies : (room : ℕ) → Within g → None → builder_reply g room ≡ text_reply text room
  text_replies room w f = replies_text g room w (λ q. agree q (f q)) ∙ ap (λ (l : List ℕ). text_reply l room) (sym (table_text_lem g))

  -- the reply, by all that it depends on
  replied : (room : ℕ) (Φ : Reply → Type 0) → (TooMany g → Φ (refused LimitExceeded 0)) → ((q : ℕ) → WithinLimits g → Lowest q → Φ (refused Conflict q))
      → (WithinLimits g → None → 65536 < length text → Φ (refused LimitExceeded 0)) → (WithinLimits g → None → length text ≤ 65536 → room < length text → Φ (refused BufferTooSmall 0))
      → (WithinLimits g → None → length text ≤ 65536 → length text ≤ room → Φ (Accepted 0)) → Φ (builder_reply g room)
  replied room Φ many conflict long short fits = go (within? g)
    where
      by_lowest : (w : Within g) → ((q : ℕ) × Lowest q) ⊎ ((q : ℕ) → q < suc (length (states g)) → Clash q → ⊥) → Φ (builder_reply g room)
      by_lowest w (inl h) = subst Φ (sym (conflict_replies room h.0 w h.1)) (conflict h.0 (not_many g W w) h.1)
      by_lowest w (inr f) =
          let n : None = λ q c. f q (omega (arith, clash_state w q c)) c in
          subst Φ (sym (text_replies room w n)) (text_replied text room Φ (long (not_many g W w) n) (short (not_many g W w) n) (fits (not_many g W w) n))

      go : Dec (Within g) → Φ (builder_reply g room)
      go (no f) = subst Φ (sym (replies_many g room f)) (many (too_many g W f))
      go (yes w) = by_lowest w (lowest_below w (suc (length (states g))))

  -- ---- each reply

  -- "then 9": at the lowest state that has a clash
  pub refuses_conflict : (room q : ℕ) → (builder_reply g room ≡ refused Conflict q) ↔ (WithinLimits g × Lowest q)
  refuses_conflict room q = (
    replied room (λ (r : Reply). r ≡ refused Conflict q → WithinLimits g × Lowest q)
        (λ _ e. differ e (λ n. omega (arith, n))) (λ p w c e. (w, subst Lowest (ap place_of e) c))
        (λ _ _ _ e. differ e (λ n. omega (arith, n))) (λ _ _ _ _ e. differ e (λ n. omega (arith, n))) (λ _ _ _ _ e. differ e (λ n. omega (arith, n))),
    λ h. conflict_replies room q (kept g W h.0) h.1,
  )

  abbrev Many : Type 0
  Many = TooMany g ⊎ (WithinLimits g × None × (65536 < length text))

  -- "2 for entries, states and kernel lines", and "then 2 for the book's bytes"
  pub refuses_many : (room : ℕ) → (builder_reply g room ≡ refused LimitExceeded 0) ↔ Many
  refuses_many room = (
    replied room (λ (r : Reply). r ≡ refused LimitExceeded 0 → Many)
        (λ f _. inl f) (λ _ _ _ e. differ e (λ n. omega (arith, n))) (λ w f l _. inr (w, f, l))
        (λ _ _ _ _ e. differ e (λ n. omega (arith, n))) (λ _ _ _ _ e. differ e (λ n. omega (arith, n))),
    from,
  )
    where
      from : Many → builder_reply g room ≡ refused LimitExceeded 0
      from (inl m) = replies_many g room (λ w. not_many g W w m)
      from (inr h) = text_replies room (kept g W h.0) h.1 ∙ simp (lt-ltb 65536 (length text) h.2)

  -- "then 11"
  pub refuses_short : (room : ℕ) → (builder_reply g room ≡ refused BufferTooSmall 0) ↔ (WithinLimits g × None × (length text ≤ 65536) × (room < length text))
  refuses_short room = (
    replied room (λ (r : Reply). r ≡ refused BufferTooSmall 0 → WithinLimits g × None × (length text ≤ 65536) × (room < length text))
        (λ _ e. differ e (λ n. omega (arith, n))) (λ _ _ _ e. differ e (λ n. omega (arith, n))) (λ _ _ _ e. differ e (λ n. omega (arith, n)))
        (λ w f l s _. (w, f, l, s)) (λ _ _ _ _ e. differ e (λ n. omega (arith, n))),
    λ h. text_replies room (kept g W h.0) h.1 ∙ simp (le-ltb 65536 (length text) h.2, lt-ltb room (length text) h.3),
  )

  -- else the book
  pub writes : (room : ℕ) → (builder_reply g room ≡ Accepted 0) ↔ (WithinLimits g × None × (length text ≤ 65536) × (length text ≤ room))
  writes room = (
    replied room (λ (r : Reply). r ≡ Accepted 0 → WithinLimits g × None × (length text ≤ 65536) × (length text ≤ room))
        (λ _ e. differ e (λ n. omega (arith, n))) (λ _ _ _ e. differ e (λ n. omega (arith, n))) (λ _ _ _ e. differ e (λ n. omega (arith, n)))
        (λ _ _ _ _ e. differ e (λ n. omega (arith, n))) (λ w f l s _. (w, f, l, s)),
    λ h. text_replies room (kept g W h.0) h.1 ∙ simp (le-ltb 65536 (length text) h.2, le-ltb room (length text) h.3),
  )
