pub mod LetteredLaws
