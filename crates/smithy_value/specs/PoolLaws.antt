-- Trees of a pool stay as they are while it grows.
use Rattle.std.proofs.Common.{◌∙◌, ℕ, List, refl, ap, drop}
use Rattle.smithy_declarations.specs.Value.{no_map_entries, no_member_values}
use Rattle.smithy_tree.specs.Items.{Item, put_entries, put_members}
use Rattle.smithy_tree.specs.Seen.{waiting, elements_in}
use Rattle.smithy_tree.specs.declared.pool.Pool.{Pool}
use Rattle.smithy_tree.proofs.Seeing.{grows_self, grows_twice}
use Rattle.smithy_tree.proofs.HalfLists.{half_still, elements_still}
use Rattle.smithy_value.specs.Building.{KeepsLawfully, GrowsLawfully}
use Rattle.smithy_value.specs.Pooled.{IsPoolOf, Keeps, Begun, BegunElements, waiting_entries, waiting_members}

pub kept_lawfully : KeepsLawfully IsPoolOf Keeps
kept_lawfully = record {
  itself = λ p i s. record { grows = grows_self p s.sound; waits = refl };
  twice = λ p q r a b. record { grows = grows_twice p q r a.grows b.grows; waits = b.waits ∙ a.waits };
  sound_still = λ p q i s k. record { sound = k.grows.sound; input = k.grows.input ∙ s.input };
}

-- what is seen of the children that wait, whatever it is
module _ {Shown : Type 0} (seen : List Item → Shown) where
  begun_lawfully : GrowsLawfully IsPoolOf Keeps Begun (λ (p : Pool) (h : ℕ). seen (drop h (waiting p)))
  begun_lawfully = record {
    sound_still = λ p q i h s b. record { sound = b.grows.sound; input = b.grows.input ∙ s.input };
    begun_still = λ p q r h b k. record {
      grows = grows_twice p q r b.grows k.grows;
      items = b.items;
      waits = k.waits ∙ b.waits;
      begins = b.begins;
    };
    shown_still = λ p q r h b k. ap (λ (xs : List Item). seen (drop h xs)) k.waits;
  }

pub begun_elements_lawfully : GrowsLawfully IsPoolOf Keeps BegunElements elements_in
begun_elements_lawfully = record {
  sound_still = λ p q i e s b. record { sound = b.grows.sound; input = b.grows.input ∙ s.input };
  begun_still = λ p q r e b k. record {
    grows = grows_twice p q r b.grows k.grows;
    half = half_still q r e k.grows k.waits b.half;
    items = b.items;
    waits = k.waits ∙ b.waits;
    begins = b.begins;
  };
  shown_still = λ p q r e b k. elements_still q r e k.grows k.waits b.half;
}

pub begun_entries_lawfully : GrowsLawfully IsPoolOf Keeps Begun waiting_entries
begun_entries_lawfully = begun_lawfully (λ (xs : List Item). put_entries no_map_entries xs)

pub begun_members_lawfully : GrowsLawfully IsPoolOf Keeps Begun waiting_members
begun_members_lawfully = begun_lawfully (λ (xs : List Item). put_members no_member_values xs)
