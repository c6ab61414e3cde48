-- The bytes of a blob are the bytes of all its chunks, in order.
use Rattle.std.proofs.Common.{◌∙◌, ap, sym, refl, Some}
use Rattle.cbor_item.specs.Item.{byte_string}
use Rattle.smithy_cbor.proofs.decoder.Decoder.blob.Goals as goal

pub returns-in-Ok-owned_bytes : goal.returns-in-Ok-owned_bytes
returns-in-Ok-owned_bytes c =
    let found = c.in-Ok.ensures.found in
    record {
      read = record {
        same_input = refl;
        stands = (byte_string found.extent found.chunks, found.stands, ap Some (sym (c.new.ensures ∙ c.in-Ok-owned_bytes.ensures ∙ found.joined)));
      };
      refused = tt;
      stays = tt;
    }
