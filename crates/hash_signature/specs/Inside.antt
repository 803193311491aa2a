-- What a key is made of.
use Rattle.hash_signature.specs.Key.{KeyParts}
use Rattle.hash_signature.specs.declared.key.Source.{Source}
use Rattle.hash_signature.specs.declared.key.Source.TheVariants.{Walked, Unwalked}

-- what the key stands for, whether or not its chains were walked
abbrev pub source_parts : Source → KeyParts
source_parts (Walked chains) = chains
source_parts (Unwalked seed party lock) = record { seed = seed; party = party; lock = lock }
