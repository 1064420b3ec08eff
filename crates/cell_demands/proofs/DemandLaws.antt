-- How what is asked of cells adds up.
use Prim.Native.Nat.{ℕ, ◌+◌, ◌≤◌, ◌<◌}
use mathlib.Core.Path.{refl, sym, subst, ◌∙◌}
use mathlib.Core.Logic.{◌⊎◌, inl, inr}
use mathlib.Core.List.{List}
use borrow.Author.Count.{below_more}
use Rattle.fixpoint.specs.Flags.{On, Off}
use Rattle.cell_demands.specs.Demands.{Demand, Differs, Met, Asking, Asks, Wants, CodeAsks}

module _ {D : ℕ → ℕ → Type 0} where
  pub asking_none : (s o : List ℕ) → Asking D s o s o
  asking_none s o = record { long = refl; others_long = refl; kept = λ c v d. d; only = λ c v d. inl d; others_kept = λ c on. on; others_only = λ c v d. inl d }

  pub met_kept : {s o s' o' : List ℕ} {c v : ℕ} → Asking D s o s' o' → Met s o c v → Met s' o' c v
  met_kept {c = c} {v = v} a (inl d) = inl (a.kept c v d)
  met_kept {c = c} a (inr on) = inr (a.others_kept c on)

  -- what a part of it asks is added
  pub asking_then : {E : ℕ → ℕ → Type 0} {s₀ o₀ s o s' o' : List ℕ} → Asking E s₀ o₀ s o → ((c v : ℕ) → D c v → E c v) → Asking D s o s' o' → Asking E s₀ o₀ s' o'
  asking_then {E} {s₀} {o₀} {s} {o} {s'} old f a = record {
    long = a.long ∙ old.long;
    others_long = a.others_long ∙ old.others_long;
    kept = λ c v d. a.kept c v (old.kept c v d);
    only = λ c v d. back c v (a.only c v d);
    others_kept = λ c on. a.others_kept c (old.others_kept c on);
    others_only = λ c v d. other c v (a.others_only c v d);
  }
    where
      back : (c v : ℕ) → Demand s c v ⊎ D c v → Demand s₀ c v ⊎ E c v
      back c v (inl d) = old.only c v d
      back c v (inr d) = inr (f c v d)

      still : (c v : ℕ) → Differs s c v → Differs s' c v
      still c v w = record { other = w.other; there = a.kept c w.other w.there; differ = w.differ }

      before : (c v : ℕ) → Demand o₀ c v ⊎ (E c v × Differs s c v) → Demand o₀ c v ⊎ (E c v × Differs s' c v)
      before c v (inl d) = inl d
      before c v (inr w) = inr (w.0, still c v w.1)

      other : (c v : ℕ) → Demand o c v ⊎ (D c v × Differs s' c v) → Demand o₀ c v ⊎ (E c v × Differs s' c v)
      other c v (inl d) = before c v (old.others_only c v d)
      other c v (inr w) = inr (f c v w.0, w.1)

module _ {D E : ℕ → ℕ → Type 0} {s₀ o₀ s o : List ℕ} where
  pub asks_map : ((c v : ℕ) → D c v → E c v) → ((c v : ℕ) → E c v → D c v) → Asks D s₀ o₀ s o → Asks E s₀ o₀ s o
  asks_map f g a = record { asking = asking_then (asking_none s₀ o₀) f a.asking; met = λ c v d. a.met c v (g c v d) }

  -- one after the other
  pub asks_then : {s' o' : List ℕ} → Asks D s₀ o₀ s o → Asks E s o s' o' → Asks (λ (c v : ℕ). D c v ⊎ E c v) s₀ o₀ s' o'
  asks_then {s'} {o'} a b = record { asking = asking_then (asking_then (asking_none s₀ o₀) (λ c v d. inl d) a.asking) (λ c v d. inr d) b.asking; met = met_both }
    where
      met_both : (c v : ℕ) → D c v ⊎ E c v → Met s' o' c v
      met_both c v (inl d) = met_kept b.asking (a.met c v d)
      met_both c v (inr d) = b.met c v d

-- ---- the codes of a row

-- all below c have what they want
abbrev pub Below : List ℕ → ℕ → ℕ → ℕ → ℕ → List ℕ → List ℕ → ℕ → Type 0
Below from start low codes demand s o c = (d : ℕ) → d < c → (v : ℕ) → CodeAsks from start low codes demand d v → Met s o d v

module _ {from : List ℕ} {start low codes demand : ℕ} where
  pub wants_code : {c : ℕ} → low ≤ c → c < codes → On from (start + c) → (d v : ℕ) → Wants c demand d v → CodeAsks from start low codes demand d v
  wants_code {c} a b on d v w = subst (λ (x : ℕ). CodeAsks from start low codes demand x v) (sym w.code) (record { above = a; below = b; on = on; is = w.value })

  pub codes_skip : {s o : List ℕ} (c : ℕ) → Off from (start + c) → Below from start low codes demand s o c → Below from start low codes demand s o (c + 1)
  codes_skip c off h = below_more _ c h (λ v w. absurd (w.on.nonzero off))

  pub codes_more : {s o s' o' : List ℕ} (c : ℕ) → Asks (Wants c demand) s o s' o' → Below from start low codes demand s o c → Below from start low codes demand s' o' (c + 1)
  codes_more c a h = below_more _ c (λ d l v w. met_kept a.asking (h d l v w)) (λ v w. a.met c v (record { code = refl; value = w.is }))
