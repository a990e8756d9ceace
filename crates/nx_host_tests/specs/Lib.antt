pub mod TestHost
