use Rattle.std.proofs.Common.{◌≡◌, ◌∙◌, ap, String, Global, Bor, Option, Some, None, refl, string_bytes}
use Rattle.std.specs.Option.{option_map, option_copied}
use Rattle.ipc_schema.proofs.Found.{found}
use Rattle.ipc_schema.proofs.read.metadata.value_under.Goals as goal

copied : (o : Option (Bor (String Global))) → option_map (λ s. string_bytes s.now) o ≡ option_map (λ s. string_bytes s) (option_copied o)
copied None = refl
copied (Some s) = refl

pub returns : goal.returns
returns c = copied c.get.result ∙ ap (λ o. option_map (λ s. string_bytes s) o) c.get.ensures.value ∙ found c.args.key.now c.args.pairs.now.entries
