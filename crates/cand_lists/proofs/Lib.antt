pub mod RisingLemmas
pub mod KeptLemmas
pub mod ExactLemmas
pub mod MoveLemmas
