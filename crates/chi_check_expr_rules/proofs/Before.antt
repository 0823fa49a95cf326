-- Private to proofs. Parts that were done before the rest.
use Rattle.std.proofs.Common.{List, ◌++◌, Option, Some, None}

abbrev pub before : {A : Type 0} → List A → Option (List A) → Option (List A)
before done None = None
before done (Some rest) = Some (done ++ rest)
