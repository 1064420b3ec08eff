-- Action lines that are read are the text of these lines.
use Prim.Native.Nat.{ℕ}
use mathlib.Core.Path.{◌≡◌, refl, ap, subst, ◌∙◌}
use mathlib.Core.List.{List, [], ◌∷◌, ◌++◌}
use mathlib.Core.Bool.{Bool, true, false, cond, ◌||◌}
use native.Mathlib.Omega.{arith}
use borrow.Author.Tests.{eqb-true}
use lib.Dec.{eqb}
use lib.ListN.{length, get_or, drop}
use Rattle.leftcorner.specs.Table.{S, N, A, P, ActionLine, L}
use Rattle.leftcorner.proofs.ReadOff.{clash}
use Rattle.table_lines.specs.Block.{takes, read}
use Rattle.table_actions.specs.Actions.{is_action, action_of, action_next, actions_from}
use Rattle.table_actions.proofs.NextLaws.{action_fine}
use Rattle.table_facts.proofs.Actions.{action_came}
use Rattle.build_book.specs.Text.{line, action_bytes, action_text}
use Rattle.canonical.proofs.Line.{line_written, one_more, no_more}
use Rattle.canonical.proofs.Block.{block_written}
use Rattle.canonical.proofs.Judged.{action_letter}

abbrev bytes_of : ActionLine → List ℕ
bytes_of (L q X x) = action_bytes q X x

text_more : (x : ActionLine) (l : List ActionLine) → action_text (x ∷ l) ≡ bytes_of x ++ action_text l
text_more (L q X x) l = refl

-- the letter of an action line is that of its action
letter_back : (q X v letter : ℕ) → is_action letter ≡ true → line letter (q ∷ X ∷ v ∷ []) ≡ action_bytes q X (action_of letter v)
unfolding is_action action_of
letter_back q X v letter = go (eqb letter 83) refl (eqb letter 78) refl (eqb letter 65) refl (eqb letter 80) refl
  where
    is : {n : ℕ} → eqb letter n ≡ true → line letter (q ∷ X ∷ v ∷ []) ≡ line n (q ∷ X ∷ v ∷ [])
    is {n} e = ap (λ (b : ℕ). line b (q ∷ X ∷ v ∷ [])) (eqb-true letter n e)

    go : (a : Bool) → eqb letter 83 ≡ a → (b : Bool) → eqb letter 78 ≡ b → (c : Bool) → eqb letter 65 ≡ c → (d : Bool) → eqb letter 80 ≡ d
        → a || (b || (c || d)) ≡ true → line letter (q ∷ X ∷ v ∷ []) ≡ action_bytes q X (cond a (S v) (cond b (N v) (cond c (A v) (P v))))
    go true e b f c h d k t = is e
    go false e true f c h d k t = is f
    go false e false f true h d k t = is h
    go false e false f false h true k t = is k
    go false e false f false h false k t = clash cc

module _ (s : List ℕ) (t n rules states : ℕ) where
  action_written : (at : ℕ) (l : List ActionLine) (x : ActionLine) (past : ℕ) → action_next s t n rules states at l ≡ takes x past
      → drop at s ≡ bytes_of x ++ drop past s
  action_written at l x past e =
      let c = action_came s t n rules states at l x past e in
      let ns = c.numbers in
      let f = action_fine t n rules states l c.letter ns c.fine in
      let three : ns ≡ get_or ns 0 0 ∷ get_or ns 1 0 ∷ get_or ns 2 0 ∷ [] =
      one_more ns 0 (omega (arith, f.three)) (one_more ns 1 (omega (arith, f.three)) (one_more ns 2 (omega (arith, f.three)) (no_more ns 3 (omega (arith, f.three))))) in
      subst (λ (y : ActionLine). drop at s ≡ bytes_of y ++ drop past s) c.made
      (line_written s at c.line_is f.small
      ∙ ap (λ (w : List ℕ). w ++ drop past s)
      (ap (line c.letter) three ∙ letter_back (get_or ns 0 0) (get_or ns 1 0) (get_or ns 2 0) c.letter (action_letter t n rules states l c.letter ns c.fine)))

  pub actions_written : (at : ℕ) {xs : List ActionLine} {end : ℕ} → actions_from s t n rules states at ≡ read xs end
      → drop at s ≡ action_text xs ++ drop end s
  actions_written at e = block_written s bytes_of action_text refl text_more (action_next s t n rules states) action_written (length s) at e
