-- That equal metadata are an equivalence.
use Rattle.std.specs.Cmp.{IsEquivalence, and_equiv, on_equiv}
use Rattle.std.specs.Cmp.Lexicographic.{lists_equiv, options_equiv, nat_list_eq_equiv}
use Rattle.smithy_error_metadata.specs.Metadata.{Metadata, same_metadata}

pub metadata_equiv : IsEquivalence same_metadata
metadata_equiv =
    and_equiv (on_equiv (λ (m : Metadata). m.code) (options_equiv nat_list_eq_equiv))
    (and_equiv (on_equiv (λ (m : Metadata). m.message) (options_equiv nat_list_eq_equiv))
    (on_equiv (λ (m : Metadata). m.extras) (lists_equiv (and_equiv (on_equiv (λ e. e.0) nat_list_eq_equiv) (on_equiv (λ e. e.1) nat_list_eq_equiv)))))
