-- Errors of builders as errors of calls on arrays.
use Rattle.lower_builders.specs.declared.error.BuildError.{BuildError}
use Rattle.lower_builders.specs.declared.error.BuildError.TheVariants as Builds
use Rattle.lower_compute.specs.declared.error.ComputeError.{ComputeError}
use Rattle.lower_compute.specs.declared.error.ComputeError.TheVariants.{Memory, Overflow}

-- An allocation that fails, or a number above the maximum of its type.
abbrev pub build_error : BuildError → ComputeError
build_error Builds.Memory = Memory
build_error _ = Overflow
