-- What a writer keeps of its schema and of its pairs.
use Rattle.std.proofs.Common.{◌≡◌, ℕ, ◌≤◌, [], inl, inr, sym, ap, subst, arith}
use Rattle.std.proofs.Math.Logic.{∥∥₁_map}
use Rattle.std.proofs.lemmas.Bool.{cases_lt}
use Rattle.std.proofs.lemmas.Grind.{merely, not_there}
use Rattle.lower.specs.TypeTrees.{FieldTrees, Pairs}
use Rattle.ipc_base.specs.IdTrees.{IdTrees}
use Rattle.ipc_model.specs.Writable.{IsWritable, IsWritableFile, file_weight}
use Rattle.ipc_schema_write.specs.WriterAnswers.{max_weight}
use Rattle.ipc_write.specs.declared.stream.WriterState.{WriterState}
use Rattle.ipc_write.specs.declared.stream.WriterState.TheVariants.{New, Started, Finished, Failed}
use Rattle.ipc_file_write.specs.Keeping.{StaysWritable}

-- other pairs
other_pairs : (s : WriterState) (fs : FieldTrees) (es : Pairs) (is : IdTrees) (old new : Pairs) → file_weight fs es new ≤ max_weight → StaysWritable s fs es is old → StaysWritable s fs es is new
other_pairs New fs es is old new light h = λ alone. light
other_pairs Started fs es is old new light h = record { schema = h.schema; light = light }
other_pairs Finished fs es is old new light h = tt
other_pairs Failed fs es is old new light h = tt

pub pairs_keep : (s : WriterState) (fs : FieldTrees) (es : Pairs) (is : IdTrees) (old new : Pairs) → ∥ StaysWritable s fs es is old ∥₁ → file_weight fs es new ≤ max_weight → ∥ StaysWritable s fs es is new ∥₁
pairs_keep s fs es is old new h light = ∥∥₁_map h (λ (k : StaysWritable s fs es is old). other_pairs s fs es is old new light k)

-- a file that was started can be written
pub started_keeps : (s : WriterState) (fs : FieldTrees) (es : Pairs) (is : IdTrees) (pairs : Pairs) → ∥ StaysWritable s fs es is pairs ∥₁ → s ≡ Started → ¬ (¬ IsWritableFile fs es is pairs)
started_keeps s fs es is pairs h e = λ n. not_there h (λ k. n (subst (λ (x : WriterState). StaysWritable x fs es is pairs) e k))

pub started_schema : (s : WriterState) (fs : FieldTrees) (es : Pairs) (is : IdTrees) (pairs : Pairs) → ∥ StaysWritable s fs es is pairs ∥₁ → s ≡ Started → ¬ (¬ IsWritable fs es is)
started_schema s fs es is pairs h e = λ n. started_keeps s fs es is pairs h e (λ k. n k.schema)

pub failed_keeps : (s : WriterState) (fs : FieldTrees) (es : Pairs) (is : IdTrees) (pairs : Pairs) → s ≡ Failed → ∥ StaysWritable s fs es is pairs ∥₁
failed_keeps s fs es is pairs e = subst (λ (x : WriterState). ∥ StaysWritable x fs es is pairs ∥₁) (sym e) (merely tt)

-- The state stays.
pub same_keeps : (s t : WriterState) (fs : FieldTrees) (es : Pairs) (is : IdTrees) (pairs : Pairs) → ∥ StaysWritable s fs es is pairs ∥₁ → t ≡ s → ∥ StaysWritable t fs es is pairs ∥₁
same_keeps s t fs es is pairs h e = subst (λ (x : WriterState). ∥ StaysWritable x fs es is pairs ∥₁) (sym e) h

not_more : (n m : ℕ) → ¬ (¬ (n ≤ m)) → n ≤ m
not_more n m h = elim (cases_lt m n) [ inl more ↦ absurd (h (λ less. omega (arith, less, more))) | inr less ↦ less ]

-- a schema that can be written has room for the pairs that were set
pub new_light : (s : WriterState) (fs : FieldTrees) (es : Pairs) (is js : IdTrees) (pairs : Pairs) → ∥ StaysWritable s fs es is pairs ∥₁ → s ≡ New → IsWritable fs es js → file_weight fs es pairs ≤ max_weight
new_light s fs es is js pairs h e w =
    not_more (file_weight fs es pairs) max_weight (λ n. not_there h (λ k. n ((subst (λ (x : WriterState). StaysWritable x fs es is pairs) e k) w.light)))

-- A writer that was made without pairs.
pub new_keeps : (fs : FieldTrees) (es : Pairs) (is : IdTrees) (pairs : Pairs) → pairs ≡ [] → ∥ StaysWritable New fs es is pairs ∥₁
new_keeps fs es is pairs none = merely (λ alone. let same = ap (λ (ps : Pairs). file_weight fs es ps) none in omega (arith, alone, same))
