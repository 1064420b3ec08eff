-- The walk on one code comes to rest, if it does so where an item of the top state is finished without a token: completeness
-- walks the item to its end.
use Prim.Native.Nat.{ℕ}
use native.Mathlib.Nat.{suc-ne-zero, suc_inj}
use mathlib.Core.Path.{◌≡◌, refl, sym, ap, ◌∙◌, subst}
use mathlib.Core.List.{List, [], ◌∷◌, ◌++◌, append_assoc, append-nil}
use mathlib.Core.Option.{some}
use lib.ListN.{length, drop, take, take-append-drop}
use Rattle.language.specs.Grammar.{Grammar, Rule, rule_at, concat}
use Rattle.language.specs.Derivation.{Forest, yields, IsForest}
use Rattle.language.proofs.Forests.{yields-⧺, Split, split}
use Rattle.language.specs.First.{next, First}
use Rattle.language.specs.Trace.{flat, closings, traces}
use Rattle.leftcorner.specs.Machine.{Automaton, Event, shifted, announced, closed, on, whole, wrong, to_come, step}
use Rattle.leftcorner.proofs.Adequate.{Source, rule, track, behind, before_of, Holds, Complete, Exact}
use Rattle.leftcorner.proofs.Run.{Run, stop, more, run_++}
use Rattle.leftcorner.proofs.Path.{far-drop, gotos, last, gotos-++, last-++}
use Rattle.leftcorner.proofs.Completeness.{next_end, walked, forest_walks, rule_walks, walks_all}

-- an event that takes no token
abbrev pub Quiet : Event → Type 0
Quiet (shifted a) = ⊥
Quiet (announced i) = Unit {0}
Quiet closed = Unit {0}

module _ (g : Grammar) (m : Automaton) where
  -- on code c the walk shifts or ends after finitely many steps
  pub data Rests (c : ℕ) : List ℕ → Type 0 where
    at_whole : {S : List ℕ} → step g m S c ≡ whole → Rests c S
    at_wrong : {S : List ℕ} → step g m S c ≡ wrong → Rests c S
    at_shift : {S U : List ℕ} {a : ℕ} → step g m S c ≡ on (shifted a) U → Rests c S
    quietly : {S U : List ℕ} {e : Event} → Quiet e → step g m S c ≡ on e U → Rests c U → Rests c S

  -- a run brings the walk on its first code to rest, if it rests where the run took no token
  pub run_rests : {S U w v : List ℕ} {τ : List Event} → Run g m S w τ U v → (c : ℕ) → next w 0 ≡ c → (v ≡ w → Rests c U) → Rests c S
  run_rests stop c n k = k refl
  run_rests (more {S = S} {U = U} {w = w} {e = e} h r) c n k =
      go e (ap (step g m S) (sym n) ∙ h) (λ x. run_rests r c (ap (λ (l : List ℕ). next l 0) x ∙ n) (λ y. k (y ∙ x)))
    where
      go : (f : Event) → step g m S c ≡ on f U → (to_come f w ≡ w → Rests c U) → Rests c S
      go (shifted a) x ih = at_shift x
      go (announced i) x ih = quietly tt x (ih refl)
      go closed x ih = quietly tt x (ih refl)

pub nothing_read : (l : List ℕ) (d : ℕ) → d ∷ [] ≡ l ++ d ∷ [] → l ≡ []
nothing_read [] d e = refl
nothing_read (x ∷ []) d e = absurd (suc-ne-zero 0 (suc_inj (sym (ap length e))))
nothing_read (x ∷ y ∷ l) d e = absurd (suc-ne-zero (length (l ++ d ∷ [])) (suc_inj (sym (ap length e))))

module _ {g : Grammar} {string : ℕ → List ℕ} {Kernel : ℕ → Source → ℕ → ℕ → Type 0} {m : Automaton}
    (C : Complete g string Kernel m) (E : Exact g string Kernel m) where
  -- an item within its track γ, above its beginning, can be moved to the end
  pub held_end : (ι : Source) (γ : List ℕ) → track g string ι ≡ γ → (n d p : ℕ) (S : List ℕ) (b : ℕ) (U : List ℕ) → Holds g string Kernel p ι n d
      → length (take n γ) ≡ n → p ∷ S ≡ gotos m b (take n γ) U → Holds g string Kernel (last m b γ) ι (length γ) d
  held_end ι γ t n d p S b U hold long st =
      subst (λ (q : ℕ). Holds g string Kernel q ι (length γ) d) (last-++ m (take n γ) (drop n γ) b p S U st ∙ ap (last m b) (take-append-drop n γ))
      (subst (λ (k : ℕ). Holds g string Kernel (last m p (drop n γ)) ι k d) (far-drop n γ long)
      (walked C E (drop n γ) [] p ι n d hold (ap (drop n) t ∙ sym (append-nil (drop n γ)))))

  -- and the walk over what its track has ahead does so
  pub track_run : (ι : Source) (γ : List ℕ) → track g string ι ≡ γ → (n d p : ℕ) (S : List ℕ) (b : ℕ) (U : List ℕ) (F : Forest) (w : List ℕ)
      → Holds g string Kernel p ι n d → p ∷ S ≡ gotos m b (take n γ) U → IsForest g F (drop n γ) → First g (behind g string ι) d (next w 0)
      → Run g m (p ∷ S) (yields F ++ w) (flat (traces g F)) (gotos m b γ U) w
  track_run ι γ t n d p S b U F w hold st hF f =
      subst (λ (l : List ℕ). Run g m (p ∷ S) (yields F ++ w) (flat (traces g F)) l w)
      (gotos-++ m (take n γ) (drop n γ) b p S U st ∙ ap (λ (l : List ℕ). gotos m b l U) (take-append-drop n γ))
      (forest_walks C E F (walks_all C E F) (drop n γ) [] p S ι n d w hF hold (ap (drop n) t ∙ sym (append-nil (drop n γ))) f)

  -- a rule's item is finished: the walk comes to the N state above the item's beginning
  pub rule_run : (n i d : ℕ) (r : Rule) (p : ℕ) (S : List ℕ) (b : ℕ) (U : List ℕ) (F : Forest) → rule_at g i ≡ some r
      → Holds g string Kernel p (rule i) n d → length (take n r.before) ≡ n → p ∷ S ≡ gotos m b (take n r.before) U
      → IsForest g F (drop n r.before ++ concat r.groups)
      → (τ : List Event) × Run g m (p ∷ S) (yields F ++ d ∷ []) τ (m.goto b r.left ∷ b ∷ U) (d ∷ [])
  rule_run n i d r p S b U F er hold long st hF = (
    τ,
    subst (λ (l : List ℕ). Run g m (p ∷ S) l τ (m.goto b r.left ∷ b ∷ U) (d ∷ [])) yield_is
        (run_++ g m
        (track_run (rule i) r.before (ap before_of er) n d p S b U G (yields H ++ d ∷ []) hold st s.front_is (rw er starts))
        (rule_walks C E H (walks_all C E H) i r b U d (d ∷ []) s.back_is er (held_end (rule i) r.before (ap before_of er) n d p S b U hold long st) refl)),
  )
    where
      s : Split g (drop n r.before) (concat r.groups) F
      s = split g (drop n r.before) (concat r.groups) F hF

      G : Forest
      G = s.front

      H : Forest
      H = s.back

      τ : List Event
      τ = flat (traces g G) ++ announced i ∷ closings r.groups (traces g H)

      yield_is : yields G ++ (yields H ++ d ∷ []) ≡ yields F ++ d ∷ []
      yield_is = sym (append_assoc (yields G) (yields H) (d ∷ [])) ∙ ap (λ (l : List ℕ). l ++ d ∷ []) (sym (yields-⧺ G H) ∙ ap yields (sym s.cut))

      starts : First g (concat r.groups) d (next (yields H ++ d ∷ []) 0)
      starts = record { forest = H; derives = s.back_is; begins = next_end (yields H) (d ∷ []) d refl }
