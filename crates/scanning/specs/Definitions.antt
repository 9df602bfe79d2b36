-- What the code finds, as the definitions of labels have it.
use Rattle.std.specs.Prelude.{ℕ, List, Some, None, Option}
use Rattle.std.specs.Borrow.{Bor}
use Rattle.notation.specs.Labels.{Definition}
use Rattle.scanning.specs.declared.labels.Definition.{Definition as Found}

abbrev pub given_bytes : Option (Bor (List ℕ)) → Option (List ℕ)
given_bytes (Some bytes) = Some bytes.now
given_bytes None = None

abbrev pub definition_given : Option Found → Option Definition
definition_given (Some d) = Some (record { line = d.line; address = d.address })
definition_given None = None
