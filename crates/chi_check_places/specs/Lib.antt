pub mod UnplacedTyped
