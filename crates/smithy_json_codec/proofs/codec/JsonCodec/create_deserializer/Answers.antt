use Rattle.std.proofs.Common.{◌≡◌, Option, Some, None, refl, ◌∙◌, ap}
use Rattle.std.specs.Option.{option_or}
use Rattle.smithy_json_settings.specs.Settings.{CodecSettings}
use Rattle.smithy_json_codec.proofs.codec.JsonCodec.create_deserializer.Goals as goal

or_none : {A : Type 0} (o : Option A) → option_or o None ≡ o
or_none None = refl
or_none (Some x) = refl

pub returns-clause-settings : goal.returns-clause-settings
returns-clause-settings c =
    let settings : CodecSettings = c.args.self.now in
    c.create_deserializer_with_namespace.ensures.settings
    ∙ ap (λ namespace. record settings { default_namespace = namespace }) (or_none settings.default_namespace)
