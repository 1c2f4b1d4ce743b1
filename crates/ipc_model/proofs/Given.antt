-- Values that may be absent, and steps that continue if they are there.
use Rattle.std.proofs.Common.{◌≡◌, Option, Some, None, Result, Ok, Err, refl, subst}
use Rattle.std.specs.Prelude.{IfSome}
use Rattle.std.specs.Option.{option_map, option_and_then}
use Rattle.ipc_devices.specs.declared.fault.TableFault.{TableFault}
use Rattle.ipc_model.specs.Schemas.{made, given}

pub given-some : {A B : Type 0} (o : Option A) (f : A → Option B) (y : B) → given o f ≡ Some y → (x : A) × (o ≡ Some x) × (f x ≡ Some y)
given-some None f y e = cc
given-some (Some x) f y e = (x, refl, e)

pub then-some : {A B : Type 0} (f : A → Option B) (o : Option A) (y : B) → option_and_then f o ≡ Some y → (x : A) × (o ≡ Some x) × (f x ≡ Some y)
then-some f None y e = cc
then-some f (Some x) y e = (x, refl, e)

pub map-some : {A B : Type 0} (f : A → B) (o : Option A) (y : B) → option_map f o ≡ Some y → (x : A) × (o ≡ Some x) × (y ≡ f x)
map-some f None y e = cc
map-some f (Some x) y e = (x, refl, cc)

pub made-some : {A : Type 0} (r : Result A TableFault) (x : A) → made r ≡ Some x → r ≡ Ok x
made-some (Ok y) x e = cc
made-some (Err d) x e = cc

pub some-same : {A : Type 0} (x y : A) → Some x ≡ Some y → x ≡ y
some-same x y e = cc

-- what holds of a value, if there is one
pub if-some : {A : Type 0} (o : Option A) (P : A → Type 0) → ((x : A) → o ≡ Some x → P x) → IfSome o P
if-some None P h = tt
if-some (Some x) P h = h x refl

pub if-some-at : {A : Type 0} (o : Option A) (P : A → Type 0) (x : A) → IfSome o P → o ≡ Some x → P x
if-some-at o P x h e = subst (λ o. IfSome o P) e h
