mod TestHost
