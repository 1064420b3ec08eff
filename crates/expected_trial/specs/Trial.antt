-- The trial of a code after the first tokens. Document 02, S-1.
use Rattle.std.specs.Prelude.{ℕ, zero, suc, cond, List, [], ◌∷◌, ltb}
use Rattle.leftcorner.specs.Machine.{Verdict, whole_at, wrong_at, short_at}
use Rattle.expected_trial.specs.declared.Trial.{Trial}
use Rattle.expected_trial.specs.declared.Trial.TheVariants.{Fits, Misfit, Outgrown}

-- a code as it is put after the tokens; 0 is their end
abbrev pub as_tokens : ℕ → List ℕ
as_tokens zero = []
as_tokens (suc a) = suc a ∷ []

-- "A trial walks the first p tokens and then the code until it is taken." The walk over both ends past p exactly where it took the
-- code; 0 is taken where the walk is whole.
abbrev pub trial_of : ℕ → Verdict → Trial
trial_of p (whole_at q l) = Fits
trial_of p (wrong_at q) = cond (ltb p q) Fits Misfit
trial_of p (short_at q) = cond (ltb p q) Fits Outgrown
