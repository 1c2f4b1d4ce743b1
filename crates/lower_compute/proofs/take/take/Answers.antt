use Rattle.std.proofs.Common.{ℕ, List, ◌<◌, subst}
use Rattle.std.specs.List.{All}
use Rattle.std.proofs.lemmas.Result.{MatchResult-weaker}
use Rattle.lower_arrays.specs.Layouts.{Layout}
use Rattle.lower_arrays.specs.AnyLayouts.{layout_of}
use Rattle.lower_compute.specs.Copies.{NoCopy}
use Rattle.lower_compute.specs.Compute.{CauseTake}
use Rattle.lower_compute.specs.declared.error.ComputeError.{ComputeError}
use Rattle.lower_compute.specs.declared.error.ComputeError.TheVariants.{Index}
use Rattle.lower_compute.proofs.take.take.Goals as goal

cause : (indices : List ℕ) (l : Layout) (e : ComputeError) → NoCopy e → CauseTake indices l e
cause indices l (Index k) h = absurd h
cause indices l _ h = h

pub slots_at-requires : goal.slots_at-requires
slots_at-requires c = subst (λ n. All (λ i. i < n) c.args.indices.now) c.len.ensures.len c.in_default.ensures

pub returns : goal.returns
returns c = MatchResult-weaker c.slots_at.result c.slots_at.ensures (λ copy same. same) (cause c.args.indices.now (layout_of c.args.array.now))
