-- Readers with the same values under each id read the same batches.
use Rattle.std.proofs.Common.{◌≡◌, ℕ, List, Option, None, Some, refl, ap, ◌∙◌, subst}
use Rattle.ipc_stream_lemmas.proofs.Agreeing.{agree_chosen, alike_record_law}
use Rattle.ipc_stream_lemmas.proofs.Readers.{alike_dictionary_law}
use Rattle.ipc_stream_lemmas.specs.Agreement.{AreAlike, KnowAlike}
use Rattle.ipc_table_views.specs.Spot.{Spot}
use Rattle.ipc_model.specs.Batches.{Schema, Body, kinds, chosen, record_meaning, dictionary_meaning}
use Rattle.ipc_model.specs.Entries.{Dictionaries, dictionary_at}
use Rattle.ipc_model.specs.Kinds.{count}

-- ---- the same

pub same_values : (ds es : Dictionaries) → ds ≡ es → KnowAlike ds es
same_values ds es e = record { each = λ id. ap (λ (xs : Dictionaries). dictionary_at xs id) e }

pub alike_then : (ds es fs : Dictionaries) → KnowAlike ds es → KnowAlike es fs → KnowAlike ds fs
alike_then ds es fs a b = record { each = λ id. a.each id ∙ b.each id }

-- ---- what they read

pub record_alike : (schema : Schema) (extra : ℕ) (ds es : Dictionaries) (b : Body) (t : Spot) (p : Option (List ℕ)) → KnowAlike ds es
    → record_meaning schema extra ds b t p None ≡ record_meaning schema extra es b t p None
record_alike schema extra ds es b t p a = alike_record_law schema extra ds es b t p None (agree_chosen (kinds schema) (chosen p (count (kinds schema))) ds es a)

-- The values that another reader has after a dictionary batch.
pub record AlsoGives (o : Option Dictionaries) (fs : Dictionaries) : Type 0 where
  pub known : Dictionaries
  pub some : o ≡ Some known
  pub alike : KnowAlike known fs

some_alike : (o : Option Dictionaries) (es fs : Dictionaries) → AreAlike o (Some es) → KnowAlike es fs → AlsoGives o fs
some_alike None es fs a b = absurd a
some_alike (Some ds) es fs a b = record { known = ds; some = refl; alike = alike_then ds es fs a b }

none_alike : (o : Option Dictionaries) → AreAlike o None → o ≡ None
none_alike None a = refl
none_alike (Some ds) a = absurd a

pub dictionary_alike : (schema : Schema) (extra : ℕ) (ds es : Dictionaries) (b : Body) (t : Spot) (gs fs : Dictionaries) → KnowAlike ds es
    → dictionary_meaning schema extra es b t ≡ Some gs → KnowAlike gs fs → AlsoGives (dictionary_meaning schema extra ds b t) fs
dictionary_alike schema extra ds es b t gs fs a e after =
    some_alike (dictionary_meaning schema extra ds b t) gs fs
    (subst (λ (o : Option Dictionaries). AreAlike (dictionary_meaning schema extra ds b t) o) e (alike_dictionary_law schema extra ds es b t a)) after

pub no_dictionary_alike : (schema : Schema) (extra : ℕ) (ds es : Dictionaries) (b : Body) (t : Spot) → KnowAlike ds es
    → dictionary_meaning schema extra es b t ≡ None → dictionary_meaning schema extra ds b t ≡ None
no_dictionary_alike schema extra ds es b t a e =
    none_alike (dictionary_meaning schema extra ds b t)
    (subst (λ (o : Option Dictionaries). AreAlike (dictionary_meaning schema extra ds b t) o) e (alike_dictionary_law schema extra ds es b t a))
